-- The public contract allows one result: any two that it allows of the same bytes coincide.
-- Assumes nothing.
use mathlib.Core.Path.{◌≡◌, sym, ◌∙◌}
use contract.Lifetimes.{Lfts}
use denote.Triple.Clauses.{AtExit}
use borrow.Fn.Kinds.{Dens, res_t, ended_of}
use Rattle.sheet_words.proofs.decode_words.words_of.Kinds.{ps, r}
use Rattle.sheet_words.proofs.decode_words.words_of.Reads.{Post}

pub words-of-single : (κs : Lfts 1) (a : Dens κs ps) (x y : (res_t r κs).Denot) (s t : AtExit (ended_of 1 ps r) κs) →
    Post κs a x s → Post κs a y t → x ≡ y
words-of-single κs a x y s t p q = p ∙ sym q
