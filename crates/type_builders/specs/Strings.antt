-- The types of strings.
use Rattle.std.specs.Prelude.{List, [], ◌∷◌, ℕ}
use Rattle.type_numbers.specs.Kind as kind
use Rattle.type_layers.specs.Layers.{Layer, layer}

-- A string literal is an Array of so many Char8.
abbrev pub string_literal : ℕ → List Layer
string_literal length = layer kind.array 0 length ∷ layer kind.char8 0 0 ∷ []

-- A string slice is a Slice of Char8.
abbrev pub string_slice : List Layer
string_slice = layer kind.slice 0 0 ∷ layer kind.char8 0 0 ∷ []
