-- "Relations": identical and equals, on runs of layers. The outer layers of a left and a right type are x and y.
use Rattle.std.specs.Prelude.{Bool, true, false, cond, ◌&&◌, List, [], ◌∷◌, ℕ, eqb}
use Rattle.type_numbers.specs.Kind as kind
use Rattle.type_layers.specs.Layers.{Layer, layer}

-- "identical: the same words (`==`)."
abbrev pub same_layer : Layer → Layer → Bool
same_layer x y = eqb x.kind y.kind && eqb x.name y.name && eqb x.number y.number

unfoldable pub identical : List Layer → List Layer → Bool
identical [] [] = true
identical [] (y ∷ b) = false
identical (x ∷ a) [] = false
identical (x ∷ a) (y ∷ b) = same_layer x y && identical a b

-- "equals: identical after a Char8 leaf is replaced by Uint8."
abbrev pub plain_kind : ℕ → ℕ
plain_kind k = cond (eqb k kind.char8) kind.uint8 k

abbrev pub plain_layer : Layer → Layer
plain_layer x = layer (plain_kind x.kind) x.name x.number

unfoldable pub plain : List Layer → List Layer
plain [] = []
plain (x ∷ a) = plain_layer x ∷ plain a

unfoldable pub equals : List Layer → List Layer → Bool
equals a b = identical (plain a) (plain b)
