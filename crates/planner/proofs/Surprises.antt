-- What the rules say, and a reader may not expect; each line is computed.
-- Assumes nothing.
use mathlib.Core.Path.{◌≡◌, refl}
use mathlib.Core.Bool.{true, false}
use mathlib.Core.List.{List, [], ◌∷◌, ◌++◌}
use Prim.Native.Nat.{ℕ}
use lib.ListN.{replicate}
use Rattle.type_numbers.specs.Kind as kind
use Rattle.type_layers.specs.Layers.{Layer, layer, outer, inside}
use Rattle.type_layers.specs.Answer.{Answer, given, nothing, refused}
use Rattle.type_parts.specs.Parts.{references}
use Rattle.type_size_and_depth.specs.Depth.{pointer_depth}
use Rattle.type_wellformed.specs.WellFormed.{inner, element, well_formed}
use Rattle.relation_equals.specs.Equals.{identical, plain, equals}
use Rattle.relation_coerces.specs.Coerces.{coerces, address_coerces, view_autoderefs, autoderefs}
use Rattle.plan_turn.specs.Round.{turn}
use Rattle.type_numbers.specs.StepKind as of-step
use Rattle.plan_steps.specs.Steps.{step}
use Rattle.plan_settling.specs.Settling.{pointer, settle_otherwise, line_of, settle_by, settle}
use Rattle.plan_rounds.specs.Rounds.{in_rounds}
use Rattle.symbol_members.specs.Member.{typed, absent}
use Rattle.walker_rule.specs.Walker.{walker}
use Rattle.plan_report.specs.Plan.{Plan}
use Rattle.planner.specs.Plans.{plan_of}
use Rattle.planner.specs.Demand.{Hidden}
use Rattle.planner.proofs.Table.{leaf, of, int32, plan, planned}

pub record Surprises : Type 0 where
  -- the address of (vii) can make an ill-formed type
  pub void-at-depth-1 : planned (leaf kind.void) [] int32 1 64 ≡ plan [] 0 (of kind.pointer (leaf kind.void)) true false
  pub pointer-to-void : well_formed (of kind.pointer (leaf kind.void)) ≡ false
  -- the third demand's exception can hide more than one step: no step is planned, and a View and a Pointer are gone
  pub two-hidden : planned (of kind.view (of kind.pointer int32)) [] (of kind.pointer int32) 0 64 ≡ plan [] 0 int32 false false
  -- it can hide them and report the target itself: comparing the reported type with the target then tells nothing
  pub hidden-and-equal : planned (of kind.view (of kind.pointer int32)) [] int32 0 64 ≡ plan [] 0 int32 false false
  -- so a type that autoderefs into the target need not be planned to arrive there
  pub autoderefs-there : autoderefs (of kind.view (of kind.pointer int32)) (of kind.pointer int32) ≡ true
  -- a SlicePointer at depth 0 has no settling, not even for itself
  pub slice-pointer-for-itself : planned (of kind.slice_pointer int32) [] (of kind.slice_pointer int32) 0 64 ≡ refused 10 0

pub surprises : Surprises
unfolding outer inside references pointer_depth inner element well_formed identical plain equals coerces address_coerces view_autoderefs autoderefs turn settle_otherwise line_of settle_by settle in_rounds plan_of
surprises = record {
  void-at-depth-1 = refl;
  pointer-to-void = refl;
  two-hidden = refl;
  hidden-and-equal = refl;
  autoderefs-there = refl;
  slice-pointer-for-itself = refl;
}

-- of this plan the exception holds
pub the-exception : Hidden (λ id. absent) (of kind.view (of kind.pointer int32)) int32 0
    (record { steps = []; taken = 0; type = int32; address = false; coerced = false })
unfolding walker line_of outer inside references pointer_depth identical plain equals coerces address_coerces
the-exception =
    record {
      holds = record { c = of kind.view (of kind.pointer int32); ends = refl; level = refl; view = refl; last = refl };
      type = refl;
      plain = refl;
    }

-- 64 rounds can be too few: of fifteen Pointers to a Struct with a member of that same type, and five asked Members, four
-- are taken
abbrev deep : List Layer
deep = replicate 15 pointer ++ (layer kind.struct 1 0 ∷ [])

abbrev taken_of : Answer Plan → ℕ
taken_of (given p) = p.taken
taken_of nothing = 0
taken_of (refused n p) = 0

pub sixty-four-rounds : taken_of (plan_of (λ id. typed deep) deep (replicate 5 (step of-step.member 7 0 0)) (layer kind.struct 1 0 ∷ []) 0 64) ≡ 4
unfolding outer inside references pointer_depth inner element well_formed identical plain equals coerces address_coerces turn settle_otherwise line_of settle_by settle in_rounds plan_of
sixty-four-rounds = refl
