-- Each public contract allows one answer, and one value behind each reference that was lent.
-- Assumes nothing.
use mathlib.Core.Path.{◌≡◌, sym, ◌∙◌}
use contract.Lifetimes.{Lfts}
use denote.Triple.Clauses.{AtExit}
use borrow.Fn.Kinds.{Dens, res_t, ended_of}
use Rattle.type_layers.proofs.Single.{Single}
use Rattle.face_measures.proofs.measures.start.Kinds as start-kinds
use Rattle.face_measures.proofs.measures.start.Reads as start
use Rattle.face_measures.proofs.measures.count.Kinds as count-kinds
use Rattle.face_measures.proofs.measures.count.Reads as count
use Rattle.face_measures.proofs.measures.size.Kinds as size-kinds
use Rattle.face_measures.proofs.measures.size.Reads as size
use Rattle.face_measures.proofs.measures.bound.Kinds as bound-kinds
use Rattle.face_measures.proofs.measures.bound.Reads as bound

pub start-single : Single 0 start-kinds.ps start-kinds.r start.Post
start-single κs a x y s t p q = p ∙ sym q

pub count-single : Single 0 count-kinds.ps count-kinds.r count.Post
count-single κs a x y s t p q = p ∙ sym q

pub size-single : (κs : Lfts 1) (a : Dens κs size-kinds.ps) (x y : (res_t size-kinds.r κs).Denot) (s t : AtExit (ended_of 1 size-kinds.ps size-kinds.r) κs) →
    size.Post κs a x s → size.Post κs a y t → (x ≡ y) × (s.1.0.now ≡ t.1.0.now)
size-single κs a x y s t p q = (p.0 ∙ sym q.0, p.1 ∙ sym q.1)

pub bound-single : (κs : Lfts 2) (a : Dens κs bound-kinds.ps) (x y : (res_t bound-kinds.r κs).Denot) (s t : AtExit (ended_of 2 bound-kinds.ps bound-kinds.r) κs) →
    bound.Post κs a x s → bound.Post κs a y t → (x ≡ y) × ((s.1.0.now ≡ t.1.0.now) × (s.1.1.0.now ≡ t.1.1.0.now))
bound-single κs a x y s t p q = (p.0 ∙ sym q.0, (p.1.0 ∙ sym q.1.0, p.1.1 ∙ sym q.1.1))
