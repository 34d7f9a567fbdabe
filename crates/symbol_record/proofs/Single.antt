-- Each public contract allows one outcome: any two that it allows of the same arguments coincide, in the result and in the
-- words.
-- Assumes nothing.
use mathlib.Core.Path.{◌≡◌, sym, ◌∙◌}
use contract.Lifetimes.{Lfts}
use denote.Triple.Clauses.{AtExit}
use borrow.Fn.Kinds.{Dens, res_t, ended_of}
use Rattle.symbol_update.proofs.Told.{told-apart}
use Rattle.symbol_record.proofs.record.fill.Kinds as fill-kinds
use Rattle.symbol_record.proofs.record.fill.Reads as fill
use Rattle.symbol_record.proofs.record.overwrite.Kinds as overwrite-kinds
use Rattle.symbol_record.proofs.record.overwrite.Reads as overwrite

pub fill-single : (κs : Lfts 2) (a : Dens κs fill-kinds.ps) (x y : (res_t fill-kinds.r κs).Denot) (s t : AtExit (ended_of 2 fill-kinds.ps fill-kinds.r) κs) →
    fill.Post κs a x s → fill.Post κs a y t → (x ≡ y) × (s.1.0.now ≡ t.1.0.now)
fill-single κs a x y s t p q = (p.0 ∙ sym q.0, p.1 ∙ sym q.1)

pub overwrite-single : (κs : Lfts 3) (a : Dens κs overwrite-kinds.ps) (x y : (res_t overwrite-kinds.r κs).Denot) (s t : AtExit (ended_of 3 overwrite-kinds.ps overwrite-kinds.r) κs) →
    overwrite.Post κs a x s → overwrite.Post κs a y t → (x ≡ y) × (s.1.0.now ≡ t.1.0.now) × (s.1.1.0.now ≡ t.1.1.0.now)
overwrite-single κs a x y s t p q = (told-apart x y (p.0 ∙ sym q.0), p.1 ∙ sym q.1, p.2 ∙ sym q.2)
