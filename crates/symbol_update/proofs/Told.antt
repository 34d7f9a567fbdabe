-- The code's effects and refusals are told apart by what each is as an answer.
-- Assumes nothing.
use mathlib.Core.Path.{◌≡◌, refl, sym, ap, ◌∙◌}
use mathlib.Core.List.{[], ◌∷◌}
use Prim.Native.Nat.{ℕ, ◌<◌}
use lib.ListN.{get_or}
use native.Mathlib.Omega.{arith}
use Rattle.std.specs.Prelude.{Result, Ok, Err}
use Rattle.type_numbers.specs.Effect as effect
use Rattle.type_numbers.specs.declared.effect.Effect.{Effect}
use Rattle.type_numbers.specs.declared.effect.Effect.TheVariants as effects
use Rattle.type_numbers.specs.Refusal as refusal
use Rattle.type_numbers.specs.declared.refusal.Refusal.{Refusal}
use Rattle.type_layers.specs.declared.answers.Refused.{Refused}
use Rattle.type_layers.proofs.Apart.{same-place}
use Rattle.write_answer.specs.declared.answer.Answer.{Answer}
use Rattle.symbol_update.specs.AsCoded.{told}

abbrev at : ℕ → Effect
at n = get_or (effects.Kept ∷ effects.TypeReplaced ∷ effects.BothReplaced ∷ effects.Inserted ∷ effects.Overwritten ∷ []) n effects.Kept

at-number : (e : Effect) → at (effect.number_of e) ≡ e
at-number effects.Kept = refl
at-number effects.TypeReplaced = refl
at-number effects.BothReplaced = refl
at-number effects.Inserted = refl
at-number effects.Overwritten = refl

pub effect-apart : (d e : Effect) → effect.number_of d ≡ effect.number_of e → d ≡ e
effect-apart d e q = sym (at-number d) ∙ (ap at q ∙ at-number e)

-- no refusal has the number 0
pub numbered : (r : Refusal) → 0 < refusal.number_of r
numbered r = grind arith

pub told-apart : (x y : Result Effect Refused) → told x ≡ told y → x ≡ y
told-apart (Ok d) (Ok e) p = ap Ok (effect-apart d e (ap (λ (a : Answer). a.value) p))
told-apart (Ok d) (Err e) p = absurd (omega (arith, numbered e.refusal, ap (λ (a : Answer). a.refusal) p))
told-apart (Err d) (Ok e) p = absurd (omega (arith, numbered d.refusal, ap (λ (a : Answer). a.refusal) p))
told-apart (Err d) (Err e) p = ap Err (same-place d e (ap (λ (a : Answer). a.refusal) p) (ap (λ (a : Answer). a.value) p))
