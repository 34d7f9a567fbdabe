-- The public contract allows one outcome: any two that it allows of the same arguments coincide, in the answer and in the
-- words that were lent for it.
-- Assumes nothing.
use mathlib.Core.Path.{◌≡◌, sym, ◌∙◌}
use contract.Lifetimes.{Lfts}
use denote.Triple.Clauses.{AtExit}
use borrow.Fn.Kinds.{Dens, res_t, ended_of}
use Rattle.type_layers.proofs.Apart.{result-apart}
use Rattle.walker_arrival.proofs.arrival.arrive.Kinds.{ps, r}
use Rattle.walker_arrival.proofs.arrival.arrive.Reads.{Post}

pub arrive-single : (κs : Lfts 2) (a : Dens κs ps) (x y : (res_t r κs).Denot) (s t : AtExit (ended_of 2 ps r) κs) →
    Post κs a x s → Post κs a y t → (x ≡ y) × (s.0.now ≡ t.0.now)
arrive-single κs a x y s t p q = (result-apart x y (p.0 ∙ sym q.0), p.1 ∙ sym q.1)
