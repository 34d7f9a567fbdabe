-- Each public contract allows one result: any two that it allows of the same arguments coincide.
-- Assumes nothing.
use mathlib.Core.Path.{◌≡◌, sym, ◌∙◌}
use contract.Lifetimes.{Lfts}
use denote.Triple.Clauses.{AtExit}
use borrow.Fn.Kinds.{Dens, res_t, ended_of}
use Rattle.type_layers.proofs.Single.{Single}
use Rattle.sheet_contents.proofs.bodies.types_in.Kinds as types-in-kinds
use Rattle.sheet_contents.proofs.bodies.types_in.Reads as types-in
use Rattle.sheet_contents.proofs.bodies.type_at.Kinds as type-at-kinds
use Rattle.sheet_contents.proofs.bodies.type_at.Reads as type_at

pub types-in-single : Single 1 types-in-kinds.ps types-in-kinds.r types-in.Post
types-in-single κs a x y s t p q = p.0 ∙ sym q.0

-- of the part that is handed back, the words coincide
pub type-at-single : (κs : Lfts 1) (a : Dens κs type-at-kinds.ps) (x y : (res_t type-at-kinds.r κs).Denot)
    (s t : AtExit (ended_of 1 type-at-kinds.ps type-at-kinds.r) κs) → type_at.Post κs a x s → type_at.Post κs a y t → x.now ≡ y.now
type-at-single κs a x y s t p q = p ∙ sym q
