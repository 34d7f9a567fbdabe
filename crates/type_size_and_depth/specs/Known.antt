-- The known size of a type.
use Rattle.std.specs.Prelude.{cond, ◌||◌, List, [], ◌∷◌, ℕ, eqb}
use Rattle.type_numbers.specs.Kind as kind
use Rattle.type_layers.specs.Layers.{Layer, layers}
use Rattle.type_layers.specs.Answer.{Answer, given, nothing, next}
use Rattle.type_checks.specs.Check.{check_of}

-- "Known size: 1, 2, 4, 8, 16 for the sized integers, 1 for Char8 and Bool, its number for Word"
unfoldable pub known_of : ℕ → ℕ → Answer ℕ
known_of k number =
    cond (eqb k kind.int8 || eqb k kind.uint8 || eqb k kind.char8 || eqb k kind.bool) (given 1)
    (cond (eqb k kind.int16 || eqb k kind.uint16) (given 2)
    (cond (eqb k kind.int32 || eqb k kind.uint32) (given 4)
    (cond (eqb k kind.int64 || eqb k kind.uint64) (given 8)
    (cond (eqb k kind.int128 || eqb k kind.uint128) (given 16)
    (cond (eqb k kind.word) (given number)
    nothing)))))

unfoldable pub known_size : List Layer → Answer ℕ
known_size [] = nothing
known_size (x ∷ a) = known_of x.kind x.number

unfoldable pub known_size_answer : List ℕ → Answer ℕ
known_size_answer ws = next (check_of ws) (known_size (layers ws))
