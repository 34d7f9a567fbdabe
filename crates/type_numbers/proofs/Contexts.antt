-- A number is read as one context or refused.
-- Assumes nothing.
use mathlib.Core.Path.{◌≡◌, refl, sym, ap, ◌∙◌}
use mathlib.Core.List.{[], ◌∷◌}
use Prim.Native.Nat.{ℕ, ◌≤◌}
use native.Mathlib.Omega.{arith}
use lib.ListN.{get_or}
use Rattle.std.specs.Prelude.{Result, Ok, Err}
use Rattle.type_numbers.specs.Context.{number_of, Reads}
use Rattle.type_numbers.specs.declared.refusal.Refusal.{Refusal}
use Rattle.type_numbers.specs.declared.context.Context.{Context}
use Rattle.type_numbers.specs.declared.context.Context.TheVariants as context

abbrev at : ℕ → Context
at n = get_or (context.Const ∷ context.Parameter ∷ context.Returned ∷ context.Member ∷ []) n context.Const

at-number : (c : Context) → at (number_of c) ≡ c
at-number context.Const = refl
at-number context.Parameter = refl
at-number context.Returned = refl
at-number context.Member = refl

small : (c : Context) → number_of c ≤ 3
small context.Const = omega arith
small context.Parameter = omega arith
small context.Returned = omega arith
small context.Member = omega arith

number_of-apart : (c d : Context) → number_of c ≡ number_of d → c ≡ d
number_of-apart c d e = sym (at-number c) ∙ (ap at e ∙ at-number d)

pub one-reading : (n : ℕ) (x y : Result Context Refusal) → Reads n x → Reads n y → x ≡ y
one-reading n (Ok c) (Ok d) p q = ap Ok (number_of-apart c d (p ∙ sym q))
one-reading n (Ok c) (Err e) p q = absurd (omega (arith, small c, p, q.1))
one-reading n (Err e) (Ok d) p q = absurd (omega (arith, small d, q, p.1))
one-reading n (Err e) (Err f) p q = ap Err (p.0 ∙ sym q.0)
