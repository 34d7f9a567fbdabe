-- The steps that stand in words.
-- Assumes nothing.
use mathlib.Core.Path.{◌≡◌, refl, sym, ap, ◌∙◌}
use mathlib.Core.List.{List, [], ◌∷◌, ◌++◌}
use Prim.Native.Nat.{ℕ, zero, suc, ◌+◌, ◌*◌, ◌≤◌}
use native.Mathlib.Omega.{arith}
use lib.ListN.{length, take, replicate}
use lib.Seq.{length-take-le}
use Rattle.plan_steps.specs.Steps.{Step, steps, step_words}
use Rattle.plan_steps.specs.AsCoded.{put_step}
use Rattle.plan_steps.proofs.Words.{words-length, words_append, words_back, words-whole, put-take, put-length}

-- so many words are whole steps
module _ (b : List ℕ) (n : ℕ) (h : 4 * n ≤ length b) where
  pub spelled : take (4 * n) b ≡ step_words (steps (take (4 * n) b))
  spelled = sym (words-whole (take (4 * n) b) (rw (length-take-le (4 * n) b h) (omega arith)))

  pub counted : length (steps (take (4 * n) b)) ≡ n
  counted = omega (arith, words-length (steps (take (4 * n) b)), ap length spelled, length-take-le (4 * n) b h)

-- one more
pub pushed : (b : List ℕ) (n : ℕ) (s : Step) → 4 * n + 4 ≤ length b → steps (take (4 * (n + 1)) (put_step s (4 * n) b)) ≡ steps (take (4 * n) b) ++ s ∷ []
pushed b n s h =
    let i : 4 * (n + 1) ≡ 4 * n + 4 = omega arith in
    let l : 4 * n ≤ length b = omega arith in
    rw (i, put-take s (4 * n) b h)
    (ap (λ (w : List ℕ). steps (w ++ step_words (s ∷ []))) (spelled b n l)
    ∙ ap steps (sym (words_append (steps (take (4 * n) b)) (s ∷ [])))
    ∙ words_back (steps (take (4 * n) b) ++ s ∷ []))

-- the same step once more
pub again : (i : ℕ) (s : Step) → replicate (i + 1) s ≡ replicate i s ++ s ∷ []
again zero s = refl
again (suc i) s = let e : suc i + 1 ≡ suc (i + 1) = omega arith in rw e (ap (λ (l : List Step). s ∷ l) (again i s))

pub ruleset stepping = (spelled, counted, pushed, put-length, again)
