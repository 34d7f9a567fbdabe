-- Each public contract allows one result: any two that it allows of the same arguments coincide. Of a part that is
-- handed back, the words coincide.
-- Assumes nothing.
use mathlib.Core.Path.{◌≡◌, sym, ◌∙◌}
use contract.Lifetimes.{Lfts}
use denote.Triple.Clauses.{AtExit}
use borrow.Fn.Kinds.{Dens, res_t, ended_of}
use Rattle.type_layers.proofs.Single.{Single}
use Rattle.walker_step.proofs.step_move.move_of.Kinds as move-of-kinds
use Rattle.walker_step.proofs.step_move.move_of.Reads as move-of
use Rattle.walker_step.proofs.step_move.kind_of.Kinds as kind-of-kinds
use Rattle.walker_step.proofs.step_move.kind_of.Reads as kind-of
use Rattle.walker_step.proofs.step_move.go.Kinds as go-kinds
use Rattle.walker_step.proofs.step_move.go.Reads as go
use Rattle.walker_step.proofs.step_move.is_desliced.Kinds as is-desliced-kinds
use Rattle.walker_step.proofs.step_move.is_desliced.Reads as is-desliced

pub move-of-single : Single 0 move-of-kinds.ps move-of-kinds.r move-of.Post
move-of-single κs a x y s t p q = p ∙ sym q

pub kind-of-single : Single 1 kind-of-kinds.ps kind-of-kinds.r kind-of.Post
kind-of-single κs a x y s t p q = p ∙ sym q

pub go-single : (κs : Lfts 1) (a : Dens κs go-kinds.ps) (x y : (res_t go-kinds.r κs).Denot) (s t : AtExit (ended_of 1 go-kinds.ps go-kinds.r) κs) →
    go.Post κs a x s → go.Post κs a y t → x.now ≡ y.now
go-single κs a x y s t p q = p ∙ sym q

pub is-desliced-single : Single 0 is-desliced-kinds.ps is-desliced-kinds.r is-desliced.Post
is-desliced-single κs a x y s t p q = p ∙ sym q
