-- Each public contract allows one result: the words of any two that it allows of the same arguments coincide.
-- Assumes nothing.
use mathlib.Core.Path.{◌≡◌, sym, ◌∙◌}
use contract.Lifetimes.{Lfts}
use denote.Triple.Clauses.{AtExit}
use borrow.Fn.Kinds.{Dens, res_t, ended_of}
use Rattle.symbol_members.proofs.members.member.Kinds as member-kinds
use Rattle.symbol_members.proofs.members.member.Reads as member

pub member-single : (κs : Lfts 3) (a : Dens κs member-kinds.ps) (x y : (res_t member-kinds.r κs).Denot) (s t : AtExit (ended_of 3 member-kinds.ps member-kinds.r) κs) →
    member.Post κs a x s → member.Post κs a y t → x.now ≡ y.now
member-single κs a x y s t p q = p ∙ sym q
