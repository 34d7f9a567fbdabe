-- Each public contract allows one place and one text: any two that it allows of the same arguments coincide.
-- Assumes nothing.
use mathlib.Core.Path.{◌≡◌, sym, ◌∙◌}
use contract.Lifetimes.{Lfts}
use denote.Triple.Clauses.{AtExit}
use borrow.Fn.Kinds.{Dens, res_t, ended_of}
use Rattle.sheet_text.proofs.text.Text.put.Kinds as put-kinds
use Rattle.sheet_text.proofs.text.Text.put.Reads as put
use Rattle.sheet_text.proofs.text.Text.put_number.Kinds as put-number-kinds
use Rattle.sheet_text.proofs.text.Text.put_number.Reads as put-number

pub put-single : (κs : Lfts 3) (a : Dens κs put-kinds.ps) (x y : (res_t put-kinds.r κs).Denot) (s t : AtExit (ended_of 3 put-kinds.ps put-kinds.r) κs) →
    put.Post κs a x s → put.Post κs a y t → (s.0.now.at ≡ t.0.now.at) × (s.0.now.out.now ≡ t.0.now.out.now)
put-single κs a x y s t p q = (p.next ∙ sym q.next, p.text ∙ sym q.text)

pub put-number-single : (κs : Lfts 2) (a : Dens κs put-number-kinds.ps) (x y : (res_t put-number-kinds.r κs).Denot)
    (s t : AtExit (ended_of 2 put-number-kinds.ps put-number-kinds.r) κs) →
    put-number.Post κs a x s → put-number.Post κs a y t → (s.0.now.at ≡ t.0.now.at) × (s.0.now.out.now ≡ t.0.now.out.now)
put-number-single κs a x y s t p q = (p.next ∙ sym q.next, p.text ∙ sym q.text)
