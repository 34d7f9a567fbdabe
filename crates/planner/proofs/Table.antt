-- "Plans and types to prove", together in a single table over the rules; each line is computed.
-- Assumes nothing.
use mathlib.Core.Path.{◌≡◌, refl}
use mathlib.Core.Bool.{Bool, true, false}
use mathlib.Core.List.{List, [], ◌∷◌}
use Prim.Native.Nat.{ℕ}
use Rattle.type_numbers.specs.Kind as kind
use Rattle.type_layers.specs.Layers.{Layer, layer, outer, inside}
use Rattle.type_layers.specs.Answer.{Answer, given, refused}
use Rattle.type_parts.specs.Parts.{references}
use Rattle.type_size_and_depth.specs.Depth.{pointer_depth}
use Rattle.type_wellformed.specs.WellFormed.{inner, element, well_formed}
use Rattle.relation_equals.specs.Equals.{identical, plain, equals}
use Rattle.relation_declared.specs.Declared.{declared}
use Rattle.relation_coerces.specs.Coerces.{coerces, address_coerces}
use Rattle.type_numbers.specs.StepKind as of-step
use Rattle.type_numbers.specs.Mark as of-mark
use Rattle.plan_steps.specs.Steps.{Step, step}
use Rattle.plan_turn.specs.Round.{turn}
use Rattle.plan_settling.specs.Settling.{settle_otherwise, line_of, settle_by, settle}
use Rattle.symbol_members.specs.Member.{absent}
use Rattle.plan_rounds.specs.Rounds.{in_rounds}
use Rattle.plan_report.specs.Plan.{Plan}
use Rattle.planner.specs.Plans.{plan_of}

abbrev pub leaf : ℕ → List Layer
leaf k = layer k 0 0 ∷ []

abbrev pub of : ℕ → List Layer → List Layer
of k t = layer k 0 0 ∷ t

abbrev pub int32 : List Layer
int32 = leaf kind.int32

abbrev char8 : List Layer
char8 = leaf kind.char8

abbrev uint8 : List Layer
uint8 = leaf kind.uint8

abbrev pub array3 : List Layer
array3 = layer kind.array 0 3 ∷ int32

-- an Element whose endless mark is unknown
abbrev pub asked-element : ℕ → Step
asked-element a = step of-step.element a of-mark.unknown 0

abbrev pub plan : List Step → ℕ → List Layer → Bool → Bool → Answer Plan
plan ss k t a b = given (record { steps = ss; taken = k; type = t; address = a; coerced = b })

-- No table: no line has a Member.
abbrev pub planned : List Layer → List Step → List Layer → ℕ → ℕ → Answer Plan
planned known q target depth rounds = plan_of (λ id. absent) known q target depth rounds

pub record Table : Type 0 where
  -- "Char8 equals Uint8, isn't declared as it."
  pub char8-equals-uint8 : equals char8 uint8 ≡ true
  pub char8-not-declared : declared char8 uint8 ≡ false
  -- "Pointer to Slice ill formed.": to a Slice of anything
  pub pointer-to-slice : (t : List Layer) → well_formed (of kind.pointer (of kind.slice t)) ≡ false
  -- "View of Int32 to Int32: one Autoview."
  pub view-to-int32 : planned (of kind.view int32) [] int32 0 64 ≡ plan (step of-step.autoview 0 0 0 ∷ []) 0 int32 false false
  -- "Slice of Char8, Element 7, target Char8: Autodeslice, Element."
  pub slice-of-char8 :
      planned (of kind.slice char8) (asked-element 7 ∷ []) char8 0 64
      ≡ plan (step of-step.autodeslice 0 of-mark.by_view 0 ∷ step of-step.element 7 of-mark.no 0 ∷ []) 1 char8 false false
  -- "Pointer to Array 3 of Int32, Element, one round, target Int32: Autoderef, none taken, Array reported."
  pub one-round :
      planned (of kind.pointer array3) (asked-element 0 ∷ []) int32 0 1 ≡ plan (step of-step.autoderef 0 0 0 ∷ []) 0 array3 false false
  -- "SlicePointer of Int32, depth 1, to Pointer to EndlessArray of Int32: 10."
  pub slice-pointer : planned (of kind.slice_pointer int32) [] (of kind.pointer (of kind.endless_array int32)) 1 64 ≡ refused 10 0
  -- "Int32, depth 2: target Pointer to Int32 accepted, Pointer to Pointer to Int32 gives 9."
  pub to-pointer : planned int32 [] (of kind.pointer int32) 2 64 ≡ plan [] 0 (of kind.pointer int32) true false
  pub to-pointer-to-pointer : planned int32 [] (of kind.pointer (of kind.pointer int32)) 2 64 ≡ refused 9 0

pub table : Table
unfolding outer inside references pointer_depth inner element well_formed identical plain equals declared coerces address_coerces turn settle_otherwise line_of settle_by settle in_rounds plan_of
table = record {
  char8-equals-uint8 = refl;
  char8-not-declared = refl;
  pointer-to-slice = λ t. refl;
  view-to-int32 = refl;
  slice-of-char8 = refl;
  one-round = refl;
  slice-pointer = refl;
  to-pointer = refl;
  to-pointer-to-pointer = refl;
}
