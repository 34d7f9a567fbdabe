-- No rule, but what contracts of the code need: words of whole layers, and the outer layer as the code reads it.
use Rattle.std.specs.Prelude.{◌≡◌, List, ℕ, ◌%◌, ◌≤◌, length, get_or}
use Rattle.type_numbers.specs.Limit as limit
use Rattle.type_layers.specs.Layers.{Layer, layer}

-- Words that are whole layers, "1 to 16 layers" at most.
pub record Whole (ws : List ℕ) : Type 0 where
  pub whole : length ws % 3 ≡ 0
  pub few : length ws ≤ limit.type_words

-- The outer layer of a type's words, as the code reads it.
abbrev pub head : List ℕ → Layer
head ws = layer (get_or ws 0 0) (get_or ws 1 0) (get_or ws 2 0)
