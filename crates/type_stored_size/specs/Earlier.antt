-- No rule any more: the stored size as it was before request g, when a pointer had eight bytes. The checks, known sizes
-- and the product of an Array did not change.
use Rattle.std.specs.Prelude.{cond, ◌||◌, List, [], ◌∷◌, ℕ, eqb}
use Rattle.type_numbers.specs.Kind as kind
use Rattle.type_layers.specs.Layers.{Layer, layers}
use Rattle.type_layers.specs.Answer.{Answer, given, nothing, next}
use Rattle.type_checks.specs.Check.{check_of}
use Rattle.type_size_and_depth.specs.Known.{known_of}
use Rattle.type_stored_size.specs.StoredSize.{times}

-- "known sizes as above; Usize, Pointer, View 8; Slice, SlicePointer 16; Array its length times the element's. "No size" for the rest"
unfoldable pub earlier_stored_size : List Layer → Answer ℕ
earlier_stored_size [] = nothing
earlier_stored_size (x ∷ a) =
    cond (eqb x.kind kind.array) (times x.number (earlier_stored_size a))
    (cond (eqb x.kind kind.usize || eqb x.kind kind.pointer || eqb x.kind kind.view) (given 8)
    (cond (eqb x.kind kind.slice || eqb x.kind kind.slice_pointer) (given 16)
    (known_of x.kind x.number)))

unfoldable pub earlier_stored_size_answer : List ℕ → Answer ℕ
earlier_stored_size_answer ws = next (check_of ws) (earlier_stored_size (layers ws))
