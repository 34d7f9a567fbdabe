-- The fixing of a type that is not extern.
use Rattle.std.specs.Prelude.{cond, ◌&&◌, ◌||◌, List, ◌∷◌, ℕ, eqb}
use Rattle.type_numbers.specs.Context as of-context
use Rattle.type_numbers.specs.Kind as kind
use Rattle.type_layers.specs.Layers.{Layer, layer, outer, inside}

-- "Not extern: Arraylike becomes Slice; Struct becomes View of it for Parameter and Returned; Pointer to Arraylike becomes SlicePointer; the rest stay."
unfoldable pub fixed_plain : ℕ → List Layer → List Layer
fixed_plain context a =
    cond (eqb (outer a) kind.arraylike) (layer kind.slice 0 0 ∷ inside a)
    (cond (eqb (outer a) kind.struct && (eqb context of-context.parameter || eqb context of-context.returned)) (layer kind.view 0 0 ∷ a)
    (cond (eqb (outer a) kind.pointer && eqb (outer (inside a)) kind.arraylike) (layer kind.slice_pointer 0 0 ∷ inside (inside a))
    a))
