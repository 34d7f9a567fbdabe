-- The public contract allows one answer and one buffer: those of any two runs that it allows of the same arguments coincide.
-- Assumes nothing.
use mathlib.Core.Path.{◌≡◌, sym, ◌∙◌}
use contract.Lifetimes.{Lfts}
use denote.Triple.Clauses.{AtExit}
use borrow.Fn.Kinds.{Dens, res_t, ended_of}
use Rattle.type_layers.proofs.Apart.{result-apart}
use Rattle.extern_fixing.proofs.flags.fix_type_for_flags.Kinds.{ps, r}
use Rattle.extern_fixing.proofs.flags.fix_type_for_flags.Reads.{Post}

pub fix-type-for-flags-single : (κs : Lfts 2) (a : Dens κs ps) (x y : (res_t r κs).Denot) (s t : AtExit (ended_of 2 ps r) κs) →
    Post κs a x s → Post κs a y t → (x ≡ y) × (s.1.1.1.0.now ≡ t.1.1.1.0.now)
fix-type-for-flags-single κs a x y s t p q = (result-apart x y (p.0 ∙ sym q.0), p.1 ∙ sym q.1)
