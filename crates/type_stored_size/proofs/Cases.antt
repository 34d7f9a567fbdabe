-- Single answers, computed.
-- Assumes nothing.
use mathlib.Core.Path.{◌≡◌, refl}
use mathlib.Core.List.{◌++◌}
use Prim.Native.Nat.{◌-◌, ◌^◌}
use Rattle.type_numbers.specs.Kind as kind
use Rattle.type_numbers.specs.AsCoded.{words}
use Rattle.type_layers.specs.Layers.{layers}
use Rattle.type_layers.specs.Answer.{given, nothing, refused}
use Rattle.type_checks.specs.Check.{check_of, bad_word, bad_layer, misplaced}
use Rattle.type_size_and_depth.specs.Known.{known_of}
use Rattle.type_stored_size.specs.StoredSize.{stored_size, stored_size_answer}

-- Array 0 of Array 2^63 of Int16: the element is too large, whatever the length
pub none-of-large : stored_size_answer 8 (words kind.array 0 0 ++ (words kind.array 0 (2 ^ 63) ++ words kind.int16 0 0)) ≡ refused 17 0
unfolding stored_size_answer stored_size known_of check_of bad_word bad_layer misplaced layers
none-of-large = refl

-- Array 2^64-1 of Array 2^64-1 of Void: no size, however large
pub large-of-void : stored_size_answer 8 (words kind.array 0 (2 ^ 64 - 1) ++ (words kind.array 0 (2 ^ 64 - 1) ++ words kind.void 0 0)) ≡ nothing
unfolding stored_size_answer stored_size known_of check_of bad_word bad_layer misplaced layers
large-of-void = refl

-- Array 2^64-1 of Bool: the largest size
pub largest : stored_size_answer 8 (words kind.array 0 (2 ^ 64 - 1) ++ words kind.bool 0 0) ≡ given (2 ^ 64 - 1)
unfolding stored_size_answer stored_size known_of check_of bad_word bad_layer misplaced layers
largest = refl

-- Array 3 of Slice of Int32: six widths, of four bytes or of eight
pub slices-on-4 : stored_size_answer 4 (words kind.array 0 3 ++ (words kind.slice 0 0 ++ words kind.int32 0 0)) ≡ given 24
unfolding stored_size_answer stored_size known_of check_of bad_word bad_layer misplaced layers
slices-on-4 = refl

pub slices-on-8 : stored_size_answer 8 (words kind.array 0 3 ++ (words kind.slice 0 0 ++ words kind.int32 0 0)) ≡ given 48
unfolding stored_size_answer stored_size known_of check_of bad_word bad_layer misplaced layers
slices-on-8 = refl

-- Array 2^61 of Usize: a size with four bytes, too large with eight
pub fits-on-4 : stored_size_answer 4 (words kind.array 0 (2 ^ 61) ++ words kind.usize 0 0) ≡ given (2 ^ 63)
unfolding stored_size_answer stored_size known_of check_of bad_word bad_layer misplaced layers
fits-on-4 = refl

pub too-large-on-8 : stored_size_answer 8 (words kind.array 0 (2 ^ 61) ++ words kind.usize 0 0) ≡ refused 17 0
unfolding stored_size_answer stored_size known_of check_of bad_word bad_layer misplaced layers
too-large-on-8 = refl

-- another width: after the checks of the type, before 17 and before "no size"
pub type-before-width : stored_size_answer 5 (words kind.none 0 0) ≡ refused 2 0
unfolding stored_size_answer stored_size known_of check_of bad_word bad_layer misplaced layers
type-before-width = refl

pub width-before-17 : stored_size_answer 5 (words kind.array 0 (2 ^ 63) ++ words kind.int16 0 0) ≡ refused 5 0
unfolding stored_size_answer stored_size known_of check_of bad_word bad_layer misplaced layers
width-before-17 = refl

pub width-before-none : stored_size_answer 5 (words kind.void 0 0) ≡ refused 5 0
unfolding stored_size_answer stored_size known_of check_of bad_word bad_layer misplaced layers
width-before-none = refl
