-- The stored size of a type (added). By request g "The size now takes the pointer width, 4 or 8".
use Rattle.std.specs.Prelude.{Bool, cond, ◌||◌, List, [], ◌∷◌, ℕ, ◌*◌, ◌-◌, ◌^◌, eqb, ltb}
use Rattle.type_numbers.specs.Refusal as refusal
use Rattle.type_numbers.specs.Kind as kind
use Rattle.type_layers.specs.Layers.{Layer, layers}
use Rattle.type_layers.specs.Answer.{Answer, given, nothing, refused, next}
use Rattle.type_checks.specs.Check.{check_of}
use Rattle.type_size_and_depth.specs.Known.{known_of}

-- "the pointer width, 4 or 8", in bytes; "5 for another width"
abbrev pub width_answer : ℕ → Answer ℕ
width_answer w = cond (eqb w 4 || eqb w 8) (given w) (refused refusal.bad_request 0)

-- "one width for the first three": "Usize, Pointer and View"
abbrev pub has_one_width : ℕ → Bool
has_one_width k = eqb k kind.usize || eqb k kind.pointer || eqb k kind.view

-- "two widths for the others": "Slice and SlicePointer"
abbrev pub has_two_widths : ℕ → Bool
has_two_widths k = eqb k kind.slice || eqb k kind.slice_pointer

-- "17 stored size over 2^64-1 at any layer measured (the whole, and each measured Array's element)"
abbrev pub product : ℕ → ℕ → Answer ℕ
product n m = cond (ltb (2 ^ 64 - 1) (n * m)) (refused refusal.size_too_large 0) (given (n * m))

-- "Array its length times the element's. "No size" ... for an Array of such, whatever its length."
abbrev pub times : ℕ → Answer ℕ → Answer ℕ
times n (given m) = product n m
times n nothing = nothing
times n (refused k p) = refused k p

-- "known sizes as above; ... Array its length times the element's. "No size" for the rest". And by request g, with
-- pointers of w bytes: "counts one width for the first three and two widths for the others. Arrays follow."
unfoldable pub stored_size : ℕ → List Layer → Answer ℕ
stored_size w [] = nothing
stored_size w (x ∷ a) =
    cond (eqb x.kind kind.array) (times x.number (stored_size w a))
    (cond (has_one_width x.kind) (given w)
    (cond (has_two_widths x.kind) (given (2 * w))
    (known_of x.kind x.number)))

-- "Refusals: 5 for another width, after checks 1-3."
unfoldable pub stored_size_answer : ℕ → List ℕ → Answer ℕ
stored_size_answer w ws = next (check_of ws) (next (width_answer w) (stored_size w (layers ws)))
