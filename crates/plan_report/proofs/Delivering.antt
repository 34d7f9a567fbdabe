-- The report and the two outputs, by what became of the plan.
-- Assumes nothing.
use mathlib.Core.Path.{◌≡◌, refl, ap, ◌∙◌}
use mathlib.Core.Bool.{Bool, true, false, ◌||◌, true≢false}
use mathlib.Core.List.{List, ◌∷◌, ◌++◌}
use Rattle.std.specs.List.{flat_map}
use Prim.Native.Nat.{ℕ, zero, suc, ◌+◌, ◌*◌, ◌/◌, ◌%◌, ◌≤◌, ◌<◌}
use native.Mathlib.Omega.{arith}
use lib.Dec.{ltb}
use lib.ListN.{length, take, replicate, length-append, length-replicate}
use borrow.Author.Tests.{lt-ltb, le-ltb, ltb-true, ltb-false}
use Rattle.std.specs.Prelude.{Result, Ok, Err}
use Rattle.type_numbers.specs.AsCoded.{words}
use Rattle.type_numbers.specs.Refusal.{number_of}
use Rattle.type_numbers.specs.declared.refusal.Refusal.{Refusal}
use Rattle.type_numbers.specs.declared.refusal.Refusal.TheVariants as refusal
use Rattle.type_numbers.specs.Kind as kind
use Rattle.type_layers.specs.Layers.{Layer, layers, spelled}
use Rattle.type_layers.specs.AsCoded.{Whole}
use Rattle.type_layers.specs.Answer.{Answer, given, nothing, refused, of_result, IsUnplaced}
use Rattle.type_layers.specs.declared.answers.Refused.{Refused}
use Rattle.type_layers.proofs.Spelling.{spelled-length, spelled-append, spelled-layers}
use Rattle.write_words.specs.Written.{written}
use Rattle.write_words.proofs.Writing.{part, put, front-first}
use Rattle.plan_steps.specs.Steps.{steps, step_words}
use Rattle.plan_steps.proofs.Words.{words-length, words-whole}
use Rattle.plan_settling.specs.Settling.{pointer}
use Rattle.plan_ending.specs.declared.ending.Ending.{Ending}
use Rattle.plan_report.specs.declared.report.Report.{Report}
use Rattle.plan_report.specs.Plan.{Plan}
use Rattle.plan_report.specs.AsCoded.{plan_of_words}
use Rattle.plan_report.specs.Report.{delivered, told, steps_over, type_over, report_of, HandsResult, Reports}

pub refuses : (d : Answer Plan) (r : Refusal) (x : Refused) (s t : List ℕ) → d ≡ refused (number_of r) 0 → IsUnplaced r x → HandsResult d (Err x) s s t t
unfolding steps_over type_over
refuses d r x s t e q = rw (e, q) (refl, (refl, refl))

-- the report of what was handed out
pub reports : (d : Answer Plan) (x : Result Report Refused) (r : Report) → of_result x ≡ report_of d → Reports x r → r ≡ told d
unfolding told
reports (given p) (Ok y) r e q = cc
reports (given p) (Err y) r e q = cc
reports nothing (Ok y) r e q = cc
reports nothing (Err y) r e q = cc
reports (refused n i) (Ok y) r e q = cc
reports (refused n i) (Err y) r e q = cc

-- neither of two runs is too short
pub second_fits : (a b c d : ℕ) → (ltb a b || ltb c d) ≡ false → d ≤ c
second_fits a b c d e = by_first (ltb a b) e
  where
    by_first : (f : Bool) → (f || ltb c d) ≡ false → d ≤ c
    by_first true e = absurd (true≢false e)
    by_first false e = ltb-false c d e

-- a run that is too short for a part is too short for all of it
pub short_for_all : (a b c d e : ℕ) → (ltb a b || ltb c d) ≡ true → d ≤ e → (ltb a b || ltb c e) ≡ true
short_for_all a b c d e f h = by_first (ltb a b) f
  where
    by_first : (g : Bool) → (g || ltb c d) ≡ true → (g || ltb c e) ≡ true
    by_first true f = refl
    by_first false f = lt-ltb c e (omega (arith, ltb-true c d f, h))

-- the words of so many Pointers
pointers-length : (l : ℕ) → length (spelled (replicate l pointer)) ≡ 3 * l
pointers-length l = rw (spelled-length (replicate l pointer), length-replicate l pointer)

front-more : (k l : ℕ) → l ≤ k → take l (replicate k (words kind.pointer 0 0)) ≡ replicate l (words kind.pointer 0 0)
front-more k zero h = refl
front-more zero (suc l) h = absurd (omega arith)
front-more (suc k) (suc l) h = ap (λ (a : List (List ℕ)). words kind.pointer 0 0 ∷ a) (front-more k l (omega arith))

flat : (l : ℕ) → flat_map (λ (x : List ℕ). x) (replicate l (words kind.pointer 0 0)) ≡ spelled (replicate l pointer)
unfolding spelled
flat zero = refl
flat (suc l) = ap (λ (a : List ℕ). kind.pointer ∷ 0 ∷ 0 ∷ a) (flat l)

pub front : (f : List ℕ) (l : ℕ) → f ≡ flat_map (λ (x : List ℕ). x) (take l (replicate 16 (words kind.pointer 0 0))) → l ≤ 16 → f ≡ spelled (replicate l pointer)
front f l e h = e ∙ rw (front-more 16 l h) (flat l)

module _ (ws : List ℕ) (taken : ℕ) (e : Ending) (body s t : List ℕ) (fours : length ws % 4 ≡ 0) (w : Whole body) where
  abbrev type : List Layer
  type = replicate e.lead pointer ++ layers body

  abbrev outcome : Answer Plan
  outcome = delivered (length s) (length t) (plan_of_words ws taken e body)

  step_words_lem : step_words (steps ws) ≡ ws
  step_words_lem = words-whole ws fours

  step-number : length (steps ws) ≡ length ws / 4
  step-number = omega (arith, words-length (steps ws), ap length step_words_lem)

  type-words : spelled type ≡ spelled (replicate e.lead pointer) ++ body
  type-words = rw (spelled-append, spelled-layers body w.whole)

  type-count : length (spelled type) ≡ 3 * e.lead + length body
  type-count = rw (type-words, length-append, pointers-length) refl

  pub too_wide : 48 < 3 * e.lead + length body → (x : Refused) → IsUnplaced refusal.TooManyLayers x → HandsResult outcome (Err x) s s t t
  unfolding plan_of_words delivered
  too_wide h x q =
      let n : 16 < length type = omega (arith, type-count, spelled-length type) in
      refuses outcome refusal.TooManyLayers x s t (rw (lt-ltb 16 (length type) n)) q

  module _ (h : 3 * e.lead + length body ≤ 48) where
    narrow_type : length type ≤ 16
    narrow_type = omega (arith, type-count, spelled-length type)

    pub too_short : (ltb (length s) (length ws) || ltb (length t) (3 * e.lead + length body)) ≡ true →
        (x : Refused) → IsUnplaced refusal.OutputTooShort x → HandsResult outcome (Err x) s s t t
    unfolding plan_of_words delivered
    too_short f x q = refuses outcome refusal.OutputTooShort x s t (rw (le-ltb 16 (length type) narrow_type, step_words_lem, type-count, f)) q

    module _ (f : (ltb (length s) (length ws) || ltb (length t) (3 * e.lead + length body)) ≡ false) where
      pub fit : outcome ≡ given (record { steps = steps ws; taken = taken; type = type; address = e.address; coerced = e.coerced })
      unfolding plan_of_words delivered
      fit = rw (le-ltb 16 (length type) narrow_type, step_words_lem, type-count, f)

      pub wrote : (f₁ x y z : List ℕ) → 3 * e.lead + length body ≤ length t → f₁ ≡ spelled (replicate e.lead pointer) →
          x ≡ written ws s → y ≡ written f₁ t → z ≡ written body (part (3 * e.lead) y) →
          HandsResult outcome
          (Ok (record { refusal = 0; value = 0; steps = length ws / 4; taken = taken; layers = (3 * e.lead + length body) / 3; address = e.address; coerced = e.coerced }))
          s x t (put (3 * e.lead) y z)
      unfolding told steps_over type_over
      wrote f₁ x y z r p q i j =
          let n : (3 * e.lead + length body) / 3 ≡ length type = omega (arith, type-count, spelled-length type) in
          let l : length f₁ ≡ 3 * e.lead = rw (p, pointers-length) in
          rw (fit, step-number, n, step_words_lem, type-words) (refl, (q, rw (j, i) (front-first f₁ body t (3 * e.lead) l r ∙ rw p)))
