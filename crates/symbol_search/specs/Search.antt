-- Which record is the first free one, and which has an id.
use Rattle.std.specs.Prelude.{Bool, cond, not, ◌&&◌, List, [], ◌∷◌, ℕ, suc, eqb, ltb, Option, Some, None}
use Rattle.symbol_columns.specs.declared.symbol.Symbol.{Symbol}
use Rattle.symbol_columns.specs.Record.{free}

-- The first free record, or the number of records.
unfoldable pub first_free : List Symbol → ℕ
first_free [] = 0
first_free (s ∷ table) = cond (free s) 0 (suc (first_free table))

-- Whether a record is taken and has the id.
abbrev pub has : ℕ → Symbol → Bool
has id s = eqb s.id id && not (free s)

-- The first taken record that has the id, or the number of records.
unfoldable pub slot_for : ℕ → List Symbol → ℕ
slot_for id [] = 0
slot_for id (s ∷ table) = cond (has id s) 0 (suc (slot_for id table))

-- Such a number as the code has it: of n records the k-th, or none.
abbrev pub among : ℕ → ℕ → Option ℕ
among n k = cond (ltb k n) (Some k) None
