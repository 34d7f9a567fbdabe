-- What the outer kind alone tells of a type.
use Rattle.std.specs.Prelude.{Bool, ◌||◌, List, ℕ, eqb}
use Rattle.type_numbers.specs.Kind as kind
use Rattle.type_layers.specs.Layers.{layers, outer}
use Rattle.type_layers.specs.Answer.{Answer, next, truth}
use Rattle.type_checks.specs.Check.{check_of}
use Rattle.type_properties.specs.declared.properties.Property.{Property}
use Rattle.type_properties.specs.declared.properties.Property.TheVariants as property

-- The kinds that `is_signed`, `is_bitfield` and `is_integral` list.
abbrev pub signed : ℕ → Bool
signed k = eqb k kind.int8 || eqb k kind.int16 || eqb k kind.int32 || eqb k kind.int64 || eqb k kind.int128

abbrev pub bitfield : ℕ → Bool
bitfield k = eqb k kind.uint8 || eqb k kind.uint16 || eqb k kind.uint32 || eqb k kind.uint64 || eqb k kind.uint128

abbrev pub integral : ℕ → Bool
integral k = signed k || bitfield k || eqb k kind.usize

abbrev pub holds : Property → ℕ → Bool
holds property.Void k = eqb k kind.void
holds property.Integral k = integral k
holds property.Signed k = signed k
holds property.Bitfield k = bitfield k
holds property.SlicePointer k = eqb k kind.slice_pointer

unfoldable pub property_answer : Property → List ℕ → Answer ℕ
property_answer p ws = next (check_of ws) (truth (holds p (outer (layers ws))))
