-- Single answers, computed.
-- Assumes nothing.
use mathlib.Core.Path.{◌≡◌, refl}
use mathlib.Core.List.{◌++◌}
use Rattle.type_numbers.specs.Kind as kind
use Rattle.type_numbers.specs.AsCoded.{words}
use Rattle.type_layers.specs.Layers.{layers}
use Rattle.type_layers.specs.Answer.{given}
use Rattle.type_checks.specs.Check.{check_of, bad_word, bad_layer, misplaced}
use Rattle.type_size_and_depth.specs.Depth.{pointer_depth, pointer_depth_answer}

-- Pointer to SlicePointer of Pointer to Int8
pub through-slice-pointer : pointer_depth_answer (words kind.pointer 0 0 ++ (words kind.slice_pointer 0 0 ++ (words kind.pointer 0 0 ++ words kind.int8 0 0))) ≡ given 2
unfolding pointer_depth_answer pointer_depth check_of bad_word bad_layer misplaced layers
through-slice-pointer = refl

-- View of Pointer to Int8
pub behind-view : pointer_depth_answer (words kind.view 0 0 ++ (words kind.pointer 0 0 ++ words kind.int8 0 0)) ≡ given 0
unfolding pointer_depth_answer pointer_depth check_of bad_word bad_layer misplaced layers
behind-view = refl
