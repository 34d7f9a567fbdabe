-- No rule, but what contracts of the code need: the search in columns.
use Rattle.std.specs.Prelude.{cond, List, ℕ, ltb}
use Rattle.type_numbers.specs.Limit as limit
use Rattle.symbol_columns.specs.AsCoded.{read_from}
use Rattle.symbol_search.specs.Search.{first_free, slot_for}

-- `first_free` and `slot_for` of a table in columns: of more than 128 rows, their number.
unfoldable pub free_in : List ℕ → ℕ → ℕ
free_in ws n = cond (ltb limit.records n) n (first_free (read_from ws 0 n))

unfoldable pub slot_in : List ℕ → ℕ → ℕ → ℕ
slot_in ws n id = cond (ltb limit.records n) n (slot_for id (read_from ws 0 n))
