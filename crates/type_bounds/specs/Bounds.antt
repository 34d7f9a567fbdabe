-- "Lowest and highest values: as `min_i128` and `max_u128` list, in two u64 halves, the lowest in two's complement."
use Rattle.std.specs.Prelude.{◌≡◌, cond, ◌||◌, List, ℕ, ◌-◌, ◌^◌, ◌/◌, ◌%◌, eqb}
use Rattle.type_numbers.specs.Kind as kind
use Rattle.type_layers.specs.Layers.{Layer, layers, outer}
use Rattle.type_layers.specs.Answer.{Answer, given, next}
use Rattle.type_checks.specs.Check.{check_of}
use Rattle.type_bounds.specs.declared.bound.Halves.{Halves}

-- "in two u64 halves"
abbrev pub halves : ℕ → Halves
halves n = record { low = n % 2 ^ 64; high = n / 2 ^ 64 }

abbrev pub IsHalved : ℕ → Halves → Type 0
IsHalved n h = h ≡ halves n

-- "in two's complement": minus n.
abbrev pub minus : ℕ → ℕ
minus n = 2 ^ 128 - n

-- `min_i128`, by the outer kind.
abbrev pub lowest_of : ℕ → ℕ
lowest_of k =
    cond (eqb k kind.int8) (minus (2 ^ 7))
    (cond (eqb k kind.int16) (minus (2 ^ 15))
    (cond (eqb k kind.int32) (minus (2 ^ 31))
    (cond (eqb k kind.int64) (minus (2 ^ 63))
    (cond (eqb k kind.int128) (minus (2 ^ 127))
    0))))

-- `max_u128`, by the outer kind.
abbrev pub highest_of : ℕ → ℕ
highest_of k =
    cond (eqb k kind.int8) (2 ^ 7 - 1)
    (cond (eqb k kind.int16) (2 ^ 15 - 1)
    (cond (eqb k kind.int32) (2 ^ 31 - 1)
    (cond (eqb k kind.int64) (2 ^ 63 - 1)
    (cond (eqb k kind.int128) (2 ^ 127 - 1)
    (cond (eqb k kind.uint8 || eqb k kind.char8) (2 ^ 8 - 1)
    (cond (eqb k kind.uint16) (2 ^ 16 - 1)
    (cond (eqb k kind.uint32) (2 ^ 32 - 1)
    (cond (eqb k kind.uint64 || eqb k kind.usize || eqb k kind.pointer || eqb k kind.view) (2 ^ 64 - 1)
    (cond (eqb k kind.uint128) (2 ^ 128 - 1)
    0)))))))))

unfoldable pub lowest : List Layer → Halves
lowest a = halves (lowest_of (outer a))

unfoldable pub highest : List Layer → Halves
highest a = halves (highest_of (outer a))

unfoldable pub lowest_answer : List ℕ → Answer Halves
lowest_answer ws = next (check_of ws) (given (lowest (layers ws)))

unfoldable pub highest_answer : List ℕ → Answer Halves
highest_answer ws = next (check_of ws) (given (highest (layers ws)))
