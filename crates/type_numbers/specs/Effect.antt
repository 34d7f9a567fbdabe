-- What an accepted change did: the value that it answers.
use Rattle.std.specs.Prelude.{ℕ, ◌≡◌}
use Rattle.type_numbers.specs.declared.effect.Effect.{Effect}
use Rattle.type_numbers.specs.declared.effect.Effect.TheVariants as effect

-- Nothing changed.
abbrev pub kept : ℕ
kept = 0

-- "type replaced, identifier kept"
abbrev pub type_replaced : ℕ
type_replaced = 1

-- "both replaced"
abbrev pub both_replaced : ℕ
both_replaced = 2

-- A free record was taken.
abbrev pub inserted : ℕ
inserted = 3

-- A record that was there was poisoned or overwritten.
abbrev pub overwritten : ℕ
overwritten = 4

-- The number of each.
abbrev pub number_of : Effect → ℕ
number_of effect.Kept = kept
number_of effect.TypeReplaced = type_replaced
number_of effect.BothReplaced = both_replaced
number_of effect.Inserted = inserted
number_of effect.Overwritten = overwritten

abbrev pub Numbers : Effect → ℕ → Type 0
Numbers e n = n ≡ number_of e
