-- The public contract allows one outcome: any two that it allows of the same arguments coincide, in the change and in the
-- store.
-- Assumes nothing.
use mathlib.Core.Path.{◌≡◌, sym, ap, ◌∙◌}
use native.Mathlib.Omega.{arith}
use Rattle.std.specs.Prelude.{Result, Ok, Err}
use Rattle.type_layers.specs.declared.answers.Refused.{Refused}
use Rattle.type_layers.proofs.Apart.{same-place}
use Rattle.symbol_update.proofs.Told.{effect-apart, numbered}
use Rattle.symbol_change.specs.AsCoded.{Chosen, of_change}
use Rattle.symbol_change.specs.declared.change.Change.{Change}
use contract.Lifetimes.{Lfts}
use denote.Triple.Clauses.{AtExit}
use borrow.Fn.Kinds.{Dens, res_t, ended_of}
use Rattle.symbol_change.proofs.change.choose.Kinds.{ps, r}
use Rattle.symbol_change.proofs.change.choose.Reads.{Post}

-- the code's changes are told apart by what each is
change-apart : (x y : Result Change Refused) → of_change x ≡ of_change y → x ≡ y
change-apart (Ok c) (Ok d) e =
    let n = effect-apart c.effect d.effect (ap (λ (h : Chosen). h.answer.value) e) in
    let s = ap (λ (h : Chosen). h.stored) e in
    ap Ok (λ t. record { effect = n t; stored = s t })
change-apart (Ok c) (Err d) e = absurd (omega (arith, numbered d.refusal, ap (λ (h : Chosen). h.answer.refusal) e))
change-apart (Err d) (Ok c) e = absurd (omega (arith, numbered d.refusal, ap (λ (h : Chosen). h.answer.refusal) e))
change-apart (Err d) (Err e) p =
    ap Err (same-place d e (ap (λ (h : Chosen). h.answer.refusal) p) (ap (λ (h : Chosen). h.answer.value) p))

pub choose-single : (κs : Lfts 3) (a : Dens κs ps) (x y : (res_t r κs).Denot) (s t : AtExit (ended_of 3 ps r) κs) →
    Post κs a x s → Post κs a y t → (x ≡ y) × (s.1.1.0.now ≡ t.1.1.0.now)
choose-single κs a x y s t p q = (change-apart x y (p.0 ∙ sym q.0), p.1 ∙ sym q.1)
