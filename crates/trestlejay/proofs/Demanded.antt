-- The third demand, of the C face: the plan that stands in the report and the outputs of `tj_autoderef` meets it, it
-- reports what it should, and `tj_walk` accepts it.
-- Assumes nothing.
use mathlib.Core.Path.{◌≡◌, refl, ◌∙◌}
use mathlib.Core.List.{List}
use Prim.Native.Nat.{ℕ, ◌*◌}
use lib.ListN.{length, take}
use seplogic.Ra.Ura.{Ura}
use base.Logic.{SProp}
use prog.Memory.{Memory}
use prog.Routine.{Routine}
use types.Logic.{Logic}
use contract.Lifetimes.{Lfts}
use contract.Monad.{Fun, fact}
use denote.Triple.Entry.{Args}
use Rattle.type_layers.specs.Layers.{layers}
use Rattle.write_type.specs.Outcome.{answer_in, buffer_in}
use Rattle.symbol_columns.specs.declared.symbol.Symbol.{Symbol}
use Rattle.write_answer.specs.Flat.{flat}
use Rattle.plan_steps.specs.Steps.{steps}
use Rattle.symbol_members.specs.Members.{members}
use Rattle.walker_run.specs.Walked.{walk_to}
use Rattle.plan_report.specs.Report.{plan_read}
use Rattle.planner.specs.Demand.{Hidden, Demand}
use Rattle.planner.specs.Reported.{Reported}
use Rattle.planner.specs.Accepts.{Accepts}
use Rattle.planner.proofs.Carried.{Ensures, demand-carried, reported-carried}
use Rattle.planner.proofs.Accepts.{accepts}
use Rattle.trestlejay.specs.contracts.plans.tj_autoderef as tj-autoderef
use Rattle.trestlejay.specs.contracts.plans.tj_walk as tj-walk

-- Two calls, one after the other: what each ensures is a fact, and from both follows Then.
abbrev Ensure : {M : Type 1} (𝓤 : Ura M) {R S R' S' : Type 0} → (R → S → SProp 𝓤) → (R' → S' → SProp 𝓤) → (R → S → R' → S' → Type 0) → Type 2
Ensure 𝓤 {R} {S} {R'} {S'} first second Then =
    (P : R → S → Type 0)
    × ((Q : R' → S' → Type 0)
    × (((x : R) (s : S) → first x s ≡ fact 𝓤 (P x s))
    × (((y : R') (t : S') → second y t ≡ fact 𝓤 (Q y t)) × ((x : R) (s : S) (y : R') (t : S') → P x s → Q y t → Then x s y t))))

module _ {M : Type 1} {𝓤 : Ura M} (𝓛 : Logic 𝓤) (mem : Memory → SProp 𝓤) (run : Routine → Fun 𝓤)
    (κs : Lfts 5) (a : Args tj-autoderef.signature κs) where
  -- what `tj_autoderef` was asked
  abbrev known : List ℕ
  known = a.0.now

  abbrev asked : List ℕ
  asked = a.1.0.now

  abbrev target : List ℕ
  target = a.1.1.0.now

  abbrev level : ℕ
  level = a.1.1.1.0

  abbrev limit : ℕ
  limit = a.1.1.1.1.0

  abbrev table : List Symbol
  table = a.1.1.1.1.1.0.now

  abbrev store : List ℕ
  store = a.1.1.1.1.1.1.0.now

  abbrev steps_before : List ℕ
  steps_before = a.1.1.1.1.1.1.1.0.now

  abbrev type_before : List ℕ
  type_before = a.1.1.1.1.1.1.1.1.0.now

  -- where the report has no refusal, the plan that was told and written meets the third demand
  pub tj-autoderef-demand : Ensures 𝓤 ((tj-autoderef.clauses 𝓛 mem run κs a).ensures tt)
      (λ r s.
      let steps_after = s.1.1.1.1.1.1.1.0.now in
      let type_after = s.1.1.1.1.1.1.1.1.0.now in
      r.refusal ≡ 0 → Demand (members table store) (layers known) (steps asked) (layers target) level limit (plan_read r steps_after type_after))
  tj-autoderef-demand = (
    _,
    (
      λ x s. refl,
      λ r s q.
          demand-carried table store known asked target level limit r steps_before s.1.1.1.1.1.1.1.0.now type_before s.1.1.1.1.1.1.1.1.0.now q,
    ),
  )

  -- and it reports the target, or a type that is then coerced into it, or line (vii) applied
  pub tj-autoderef-reported : Ensures 𝓤 ((tj-autoderef.clauses 𝓛 mem run κs a).ensures tt)
      (λ r s.
      let steps_after = s.1.1.1.1.1.1.1.0.now in
      let type_after = s.1.1.1.1.1.1.1.1.0.now in
      r.refusal ≡ 0 → Reported (members table store) (layers known) (layers target) level (plan_read r steps_after type_after))
  tj-autoderef-reported = (
    _,
    (
      λ x s. refl,
      λ r s q.
          reported-carried table store known asked target level limit r steps_before s.1.1.1.1.1.1.1.0.now type_before s.1.1.1.1.1.1.1.1.0.now q,
    ),
  )

  module _ (κs' : Lfts 4) (b : Args tj-walk.signature κs') where
    abbrev room : List ℕ
    room = b.1.1.1.1.1.0.now

    -- `tj_walk`, asked with the known type, the steps that were written, the plan's flag, and the table and store, accepts
    pub tj-walk-accepts : Ensure 𝓤 ((tj-autoderef.clauses 𝓛 mem run κs a).ensures tt) ((tj-walk.clauses 𝓛 mem run κs' b).ensures tt)
        (λ r s w t.
        let walk_known = b.0.now in
        let walk_steps = b.1.0.now in
        let walk_address = b.1.1.0 in
        let walk_table = b.1.1.1.0.now in
        let walk_store = b.1.1.1.1.0.now in
        let steps_after = s.1.1.1.1.1.1.1.0.now in
        let type_after = s.1.1.1.1.1.1.1.1.0.now in
        let out_after = t.1.1.1.1.1.0.now in
        r.refusal ≡ 0 → walk_known ≡ known → walk_steps ≡ take (4 * r.steps) steps_after → walk_address ≡ r.address → walk_table ≡ table → walk_store ≡ store →
        Accepts (Hidden (members table store) (layers known) (layers target) level (plan_read r steps_after type_after)) r type_after w out_after (length room))
    tj-walk-accepts = (
      _,
      (
        _,
        (
          λ x s. refl,
          (
            λ y t. refl,
            λ r s w t p q z same_known same-steps same_flag same-table same_store.
                accepts table store known asked target level limit r steps_before s.1.1.1.1.1.1.1.0.now type_before s.1.1.1.1.1.1.1.1.0.now p z
                w room t.1.1.1.1.1.0.now (
                  q.0 ∙ (λ j. flat (answer_in room (walk_to (same_known j) (same-steps j) (same_flag j) (same-table j) (same_store j)))),
                  q.1 ∙ (λ j. buffer_in room (walk_to (same_known j) (same-steps j) (same_flag j) (same-table j) (same_store j))),
                ),
          ),
        ),
      ),
    )
