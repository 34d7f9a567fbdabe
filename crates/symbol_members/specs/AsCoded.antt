-- No rule, but what contracts of the code need: a member's type in columns.
use Rattle.std.specs.Prelude.{cond, List, [], ℕ, ltb}
use Rattle.type_numbers.specs.Limit as limit
use Rattle.symbol_columns.specs.AsCoded.{read_from}
use Rattle.symbol_members.specs.Members.{member_words}

-- `member_words` of a table in columns: of more than 128 rows, none.
unfoldable pub member_in : List ℕ → ℕ → List ℕ → ℕ → List ℕ
member_in ws n store id = cond (ltb limit.records n) [] (member_words (read_from ws 0 n) store id)
