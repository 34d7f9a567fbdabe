-- Each public contract allows one outcome: any two that it allows of the same arguments coincide, in the report and in both
-- outputs.
-- Assumes nothing.
use mathlib.Core.Path.{◌≡◌, refl, sym, ◌∙◌}
use seplogic.Ra.Ura.{Ura}
use base.Logic.{SProp}
use prog.Memory.{Memory}
use prog.Routine.{Routine}
use types.Logic.{Logic}
use contract.Lifetimes.{Lfts}
use contract.Monad.{Fun}
use denote.Triple.Clauses.{AtExit}
use denote.Triple.Entry.{Args}
use borrow.Fn.Kinds.{Dens, res_t, ended_of}
use Rattle.symbol_columns.proofs.Single.{Walked}
use Rattle.planner.proofs.plan_checks.plan_among.Kinds.{ps, r}
use Rattle.planner.proofs.plan_checks.plan_among.Reads.{Post}
use Rattle.planner.specs.contracts.autoderef_lent.autoderef as autoderef

pub plan-among-single : (κs : Lfts 7) (a : Dens κs ps) (x y : (res_t r κs).Denot) (s t : AtExit (ended_of 7 ps r) κs) → Post κs a x s → Post κs a y t →
    (x ≡ y) × (s.1.1.0.now ≡ t.1.1.0.now) × (s.1.1.1.0.now ≡ t.1.1.1.0.now)
plan-among-single κs a x y s t p q = (p.0 ∙ sym q.0, p.1.0 ∙ sym q.1.0, p.1.1 ∙ sym q.1.1)

module _ {M : Type 1} {𝓤 : Ura M} (𝓛 : Logic 𝓤) (mem : Memory → SProp 𝓤) (run : Routine → Fun 𝓤) where
  pub autoderef-single : (κs : Lfts 5) (a : Args autoderef.signature κs) →
      Walked 𝓤 ((autoderef.clauses 𝓛 mem run κs a).ensures tt)
      (λ x s y t. (x ≡ y) × (s.1.1.1.1.1.1.1.0.now ≡ t.1.1.1.1.1.1.1.0.now) × (s.1.1.1.1.1.1.1.1.0.now ≡ t.1.1.1.1.1.1.1.1.0.now))
  autoderef-single κs a = (_, (λ x s. refl, λ x y s t p q. (p.0 ∙ sym q.0, p.1.0 ∙ sym q.1.0, p.1.1 ∙ sym q.1.1)))
