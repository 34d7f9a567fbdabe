-- Each public contract allows one result: the words of any two that it allows of the same arguments coincide.
-- Assumes nothing.
use mathlib.Core.Path.{◌≡◌, sym, ◌∙◌}
use contract.Lifetimes.{Lfts}
use denote.Triple.Clauses.{AtExit}
use borrow.Fn.Kinds.{Dens, res_t, ended_of}
use Rattle.walker_rule.proofs.asked.asked_member.Kinds as asked-member-kinds
use Rattle.walker_rule.proofs.asked.asked_member.Reads as asked-member

pub asked-member-single : (κs : Lfts 3) (a : Dens κs asked-member-kinds.ps) (x y : (res_t asked-member-kinds.r κs).Denot)
    (s t : AtExit (ended_of 3 asked-member-kinds.ps asked-member-kinds.r) κs) →
    asked-member.Post κs a x s → asked-member.Post κs a y t → x.now ≡ y.now
asked-member-single κs a x y s t p q = p ∙ sym q
