-- Each public contract allows one outcome: any two that it allows of the same arguments coincide, in the answer and in
-- everything that was lent.
-- Assumes nothing.
use mathlib.Core.Path.{◌≡◌, sym, ◌∙◌}
use contract.Lifetimes.{Lfts}
use denote.Triple.Clauses.{AtExit}
use borrow.Fn.Kinds.{Dens, res_t, ended_of}
use Rattle.type_layers.proofs.Single.{Single}
use Rattle.symbol_update.proofs.Told.{told-apart}
use Rattle.symbol_update.proofs.update_record.typed.Kinds as typed-kinds
use Rattle.symbol_update.proofs.update_record.typed.Reads as typed
use Rattle.symbol_update.proofs.update_record.update.Kinds as update-kinds
use Rattle.symbol_update.proofs.update_record.update.Reads as update

pub typed-single : Single 1 typed-kinds.ps typed-kinds.r typed.Post
typed-single κs a x y s t p q = p ∙ sym q

pub update-single : (κs : Lfts 3) (a : Dens κs update-kinds.ps) (x y : (res_t update-kinds.r κs).Denot) (s t : AtExit (ended_of 3 update-kinds.ps update-kinds.r) κs) →
    update.Post κs a x s → update.Post κs a y t → (x ≡ y) × (s.0.now ≡ t.0.now) × (s.1.0.now ≡ t.1.0.now)
update-single κs a x y s t p q = (told-apart x y (p.0 ∙ sym q.0), p.1.0 ∙ sym q.1.0, p.1.1 ∙ sym q.1.1)
