-- The public contract allows one outcome: any two runs that it allows of the same arguments leave the same words.
-- Assumes nothing.
use mathlib.Core.Path.{◌≡◌, sym, ◌∙◌}
use contract.Lifetimes.{Lfts}
use denote.Triple.Clauses.{AtExit}
use borrow.Fn.Kinds.{Dens, res_t, ended_of}
use Rattle.write_words.proofs.front.write_words.Kinds.{ps, r}
use Rattle.write_words.proofs.front.write_words.Reads.{Post}

pub write-words-single : (κs : Lfts 2) (a : Dens κs ps) (x y : (res_t r κs).Denot) (s t : AtExit (ended_of 2 ps r) κs) →
    Post κs a x s → Post κs a y t → s.0.now ≡ t.0.now
write-words-single κs a x y s t p q = p ∙ sym q
