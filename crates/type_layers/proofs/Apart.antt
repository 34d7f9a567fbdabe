-- The paper's answers tell the cases of each result apart.
-- Assumes nothing.
use mathlib.Core.Path.{◌≡◌, refl, ap}
use mathlib.Core.Bool.{Bool, true, false}
use Prim.Native.Nat.{ℕ}
use Rattle.std.specs.Prelude.{Result, Ok, Err, Option, Some, None}
use Rattle.type_numbers.specs.Refusal.{number_of}
use Rattle.type_numbers.proofs.Refusals.{number_of-apart}
use Rattle.type_numbers.specs.declared.refusal.Refusal.{Refusal}
use Rattle.type_layers.specs.Answer.{of_result, of_found, of_verdict}
use Rattle.type_layers.specs.declared.answers.Refused.{Refused}

abbrev at : Refusal → ℕ → Refused
at r p = record { refusal = r; place = p }

same_at : (r s : Refusal) (p q : ℕ) → r ≡ s → p ≡ q → at r p ≡ at s q
same_at r s p q e f = rw (e, f)

pub same-place : (d e : Refused) → number_of d.refusal ≡ number_of e.refusal → d.place ≡ e.place → d ≡ e
same-place d e p q = same_at d.refusal e.refusal d.place e.place (number_of-apart d.refusal e.refusal p) q

pub result-apart : {A : Type 0} (x y : Result A Refused) → of_result x ≡ of_result y → x ≡ y
result-apart (Ok i) (Ok j) e = cc
result-apart (Ok i) (Err d) e = cc
result-apart (Err d) (Ok i) e = cc
result-apart (Err d) (Err e) p =
    let n : number_of d.refusal ≡ number_of e.refusal = cc in
    let q : d.place ≡ e.place = cc in
    ap Err (same-place d e n q)

pub found-apart : {A : Type 0} (x y : Result (Option A) Refused) → of_found x ≡ of_found y → x ≡ y
found-apart (Ok (Some i)) (Ok (Some j)) e = cc
found-apart (Ok (Some i)) (Ok None) e = cc
found-apart (Ok None) (Ok (Some j)) e = cc
found-apart (Ok None) (Ok None) e = refl
found-apart (Ok (Some i)) (Err d) e = cc
found-apart (Ok None) (Err d) e = cc
found-apart (Err d) (Ok (Some i)) e = cc
found-apart (Err d) (Ok None) e = cc
found-apart (Err d) (Err e) p =
    let n : number_of d.refusal ≡ number_of e.refusal = cc in
    let q : d.place ≡ e.place = cc in
    ap Err (same-place d e n q)

pub verdict-apart : (x y : Result Bool Refused) → of_verdict x ≡ of_verdict y → x ≡ y
verdict-apart (Ok true) (Ok true) e = refl
verdict-apart (Ok true) (Ok false) e = cc
verdict-apart (Ok false) (Ok true) e = cc
verdict-apart (Ok false) (Ok false) e = refl
verdict-apart (Ok true) (Err d) e = cc
verdict-apart (Ok false) (Err d) e = cc
verdict-apart (Err d) (Ok true) e = cc
verdict-apart (Err d) (Ok false) e = cc
verdict-apart (Err d) (Err e) p =
    let n : number_of d.refusal ≡ number_of e.refusal = cc in
    let q : d.place ≡ e.place = cc in
    ap Err (same-place d e n q)
