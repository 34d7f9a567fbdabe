-- No rule, but what contracts of the code need: what is done to a record, as the code hands it back.
use Rattle.std.specs.Prelude.{ℕ, List, ◌≡◌, Result}
use Rattle.type_numbers.specs.declared.effect.Effect.{Effect}
use Rattle.type_layers.specs.declared.answers.Refused.{Refused}
use Rattle.symbol_columns.specs.declared.symbol.Symbol.{Symbol}
use Rattle.symbol_update.specs.AsCoded.{told}
use Rattle.symbol_record.specs.Deed.{Deed}

-- As the code hands it back: the answer, and the record and the words as they stand then.
abbrev pub Does : Deed → Result Effect Refused → Symbol → List ℕ → Type 0
Does d r symbol words = (told r ≡ d.answer) × (symbol ≡ d.symbol) × (words ≡ d.words)
