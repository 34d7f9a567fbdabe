-- The pointer depth of a type.
use Rattle.std.specs.Prelude.{cond, List, [], ◌∷◌, ℕ, ◌+◌, eqb}
use Rattle.type_numbers.specs.Kind as kind
use Rattle.type_layers.specs.Layers.{Layer, layers}
use Rattle.type_layers.specs.Answer.{Answer, given, next}
use Rattle.type_checks.specs.Check.{check_of}

-- "Pointer depth counts Pointer layers from outside, one more for a SlicePointer reached so, and stops at anything else."
unfoldable pub pointer_depth : List Layer → ℕ
pointer_depth [] = 0
pointer_depth (x ∷ a) =
    cond (eqb x.kind kind.pointer) (pointer_depth a + 1)
    (cond (eqb x.kind kind.slice_pointer) 1
    0)

unfoldable pub pointer_depth_answer : List ℕ → Answer ℕ
pointer_depth_answer ws = next (check_of ws) (given (pointer_depth (layers ws)))
