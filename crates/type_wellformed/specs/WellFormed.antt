-- "Well formed, as three kinds of type that refer to one another."
use Rattle.std.specs.Prelude.{Bool, false, not, ◌&&◌, ◌||◌, List, [], ◌∷◌, ℕ, eqb}
use Rattle.type_numbers.specs.Kind as kind
use Rattle.type_layers.specs.Layers.{Layer, layers, outer, inside, is_array, is_slice, holds_inner}
use Rattle.type_layers.specs.Answer.{Answer, next, truth}
use Rattle.type_checks.specs.Check.{check_of}

-- "Inner: a leaf but Void; Array, ArrayWithNamedLength, EndlessArray or Arraylike of an Element; Pointer to an Inner."
-- An Element is said of what is inside, as below.
unfoldable pub inner : List Layer → Bool
inner [] = false
inner (x ∷ a) =
    (not (holds_inner x.kind) && not (eqb x.kind kind.void))
    || (is_array x.kind && (inner a && not (eqb (outer a) kind.endless_array)))
    || (eqb x.kind kind.pointer && inner a)

-- "Element: an Inner whose outer layer isn't EndlessArray."
unfoldable pub element : List Layer → Bool
element a = inner a && not (eqb (outer a) kind.endless_array)

-- "Type: an Inner; Void; Slice or SlicePointer of an Element; View of an Inner."
unfoldable pub well_formed : List Layer → Bool
well_formed a =
    inner a
    || eqb (outer a) kind.void
    || (is_slice (outer a) && element (inside a))
    || (eqb (outer a) kind.view && inner (inside a))

unfoldable pub well_formed_answer : List ℕ → Answer ℕ
well_formed_answer ws = next (check_of ws) (truth (well_formed (layers ws)))
