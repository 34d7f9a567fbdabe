-- The public contract allows one outcome: any two that it allows of the same arguments coincide, in the report and in both
-- outputs.
-- Assumes nothing.
use mathlib.Core.Path.{◌≡◌, sym, ◌∙◌}
use contract.Lifetimes.{Lfts}
use denote.Triple.Clauses.{AtExit}
use borrow.Fn.Kinds.{Dens, res_t, ended_of}
use Rattle.type_layers.proofs.Apart.{result-apart}
use Rattle.plan_rounds.proofs.rounds.plan_in_rounds.Kinds.{ps, r}
use Rattle.plan_rounds.proofs.rounds.plan_in_rounds.Reads.{Post}

pub plan-in-rounds-single : (κs : Lfts 7) (a : Dens κs ps) (x y : (res_t r κs).Denot) (s t : AtExit (ended_of 7 ps r) κs) → Post κs a x s → Post κs a y t →
    (x ≡ y) × (s.1.1.0.now ≡ t.1.1.0.now) × (s.1.1.1.0.now ≡ t.1.1.1.0.now)
plan-in-rounds-single κs a x y s t p q = (result-apart x y (p.0 ∙ sym q.0), p.1.0 ∙ sym q.1.0, p.1.1 ∙ sym q.1.1)
