-- Where a part of a type starts, for any words (added).
use Rattle.std.specs.Prelude.{Bool, true, false, List, ℕ, ◌*◌}
use Rattle.type_layers.specs.Layers.{Layer, layers, outer}
use Rattle.type_layers.specs.Answer.{Answer, given, nothing, next}
use Rattle.type_checks.specs.Check.{check_of}
use Rattle.type_parts.specs.Parts.{has_element, has_pointee, has_viewee, references}
use Rattle.type_part_starts.specs.declared.part_starts.Part.{Part}
use Rattle.type_part_starts.specs.declared.part_starts.Part.TheVariants as part

-- The inner type starts three words in, where there is one.
abbrev pub inner_start : Bool → Answer ℕ
inner_start true = given 3
inner_start false = nothing

unfoldable pub start_in : Part → List Layer → Answer ℕ
start_in part.Element a = inner_start (has_element (outer a))
start_in part.Pointee a = inner_start (has_pointee (outer a))
start_in part.Viewee a = inner_start (has_viewee (outer a))
start_in part.Dereferenced a = given (references a * 3)

unfoldable pub start_answer : Part → List ℕ → Answer ℕ
start_answer p ws = next (check_of ws) (start_in p (layers ws))
