-- The public contract allows one outcome: any two runs that it allows of the same arguments give the same length and leave the
-- same text.
-- Assumes nothing.
use mathlib.Core.Path.{◌≡◌, sym, ◌∙◌}
use contract.Lifetimes.{Lfts}
use denote.Triple.Clauses.{AtExit}
use borrow.Fn.Kinds.{Dens, res_t, ended_of}
use Rattle.sheet_pairs.proofs.pairs_table.pairs_text.Kinds.{ps, r}
use Rattle.sheet_pairs.proofs.pairs_table.pairs_text.Reads.{Post}

pub pairs-text-single : (κs : Lfts 2) (a : Dens κs ps) (x y : (res_t r κs).Denot) (s t : AtExit (ended_of 2 ps r) κs) →
    Post κs a x s → Post κs a y t → (x ≡ y) × (s.1.0.now ≡ t.1.0.now)
pairs-text-single κs a x y s t p q = (p.0.0 ∙ sym q.0.0, p.1 ∙ sym q.1)
