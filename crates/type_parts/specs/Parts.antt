-- The inner types: "element, pointee, viewee ... return the part of the lent words that holds the inner ... type".
use Rattle.std.specs.Prelude.{Bool, true, false, cond, ◌||◌, List, [], ◌∷◌, ℕ, ◌+◌, ◌*◌, eqb, drop}
use Rattle.type_numbers.specs.Kind as kind
use Rattle.type_layers.specs.Layers.{Layer, layers, outer, is_array, is_slice, is_reference, inner_words}

-- Whether a type whose outer layer is of kind k has an element, a pointee, a viewee.
abbrev pub has_element : ℕ → Bool
has_element k = is_array k || is_slice k

abbrev pub has_pointee : ℕ → Bool
has_pointee k = eqb k kind.pointer

abbrev pub has_viewee : ℕ → Bool
has_viewee k = eqb k kind.view

-- The inner type's words where there is one; else no words.
abbrev pub inner_if : Bool → List ℕ → List ℕ
inner_if true ws = inner_words ws
inner_if false ws = []

unfoldable pub element_of : List ℕ → List ℕ
element_of ws = inner_if (has_element (outer (layers ws))) ws

unfoldable pub pointee_of : List ℕ → List ℕ
pointee_of ws = inner_if (has_pointee (outer (layers ws))) ws

unfoldable pub viewee_of : List ℕ → List ℕ
viewee_of ws = inner_if (has_viewee (outer (layers ws))) ws

-- How many Pointers and Views stand outside everything else.
unfoldable pub references : List Layer → ℕ
references [] = 0
references (x ∷ a) = cond (is_reference x.kind) (references a + 1) 0

-- Fully dereferenced: what is inside them.
unfoldable pub fully_dereferenced : List ℕ → List ℕ
fully_dereferenced ws = drop (references (layers ws) * 3) ws
