-- The words of a slot, and those of the type that stands there.
use Rattle.std.specs.Prelude.{cond, List, [], ℕ, ◌*◌, ◌/◌, ltb, length, take, drop}
use Rattle.type_numbers.specs.Limit as limit

-- "Slot k's type stands in a lent store of words from 48k on.": the 48 words of slot k, or those of them that are there.
abbrev pub slot_words : List ℕ → ℕ → List ℕ
slot_words store k = take limit.slot_words (drop (k * limit.slot_words) store)

-- The words of a stored type of n layers: the first three for each layer. No words where they are not there.
unfoldable pub stored_words : ℕ → List ℕ → List ℕ
stored_words n ws = cond (ltb (length ws / 3) n) [] (take (n * 3) ws)
