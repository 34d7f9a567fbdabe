-- No rule, but what contracts of the code need: a table in columns.
use Rattle.std.specs.Prelude.{cond, List, ℕ, zero, suc, ltb, length, get_or, replicate}
use Rattle.type_numbers.specs.Limit as limit
use Rattle.symbol_columns.specs.declared.symbol.Symbol.{Symbol}
use Rattle.symbol_columns.specs.Record.{vacant}
use Rattle.symbol_columns.specs.AsCoded.{put_row, column_words}

-- The first k records in their columns, over the words that stand there.
unfoldable pub rows_into : List ℕ → List Symbol → ℕ → List ℕ
rows_into ws table zero = ws
rows_into ws table (suc k) = put_row (rows_into ws table k) k (get_or table k vacant)

-- The columns of at most 128 records; of more, the words stay.
unfoldable pub gathered_into : List ℕ → List Symbol → List ℕ
gathered_into ws table = cond (ltb limit.records (length table)) ws (rows_into ws table (length table))

-- The same over zeros.
abbrev pub gathered : List Symbol → List ℕ
gathered table = gathered_into (replicate column_words 0) table
