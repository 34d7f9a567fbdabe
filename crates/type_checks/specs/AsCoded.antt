-- No rule, but how the code tests words: layer by layer (`Passing.passes` shows that it is the checks).
use Rattle.std.specs.Prelude.{Bool, false, not, ◌&&◌, List, [], ◌∷◌, ℕ}
use Rattle.type_layers.specs.Layers.{layer, holds_inner}
use Rattle.type_checks.specs.Check.{good_layer}

-- Words that are layers which hold an inner type, and a leaf.
unfoldable pub good_words : List ℕ → Bool
good_words [] = false
good_words (k ∷ []) = false
good_words (k ∷ n ∷ []) = false
good_words (k ∷ n ∷ m ∷ []) = not (holds_inner k) && good_layer (layer k n m)
good_words (k ∷ n ∷ m ∷ w ∷ ws) = holds_inner k && good_layer (layer k n m) && good_words (w ∷ ws)
