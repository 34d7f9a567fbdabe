-- A run of words has no step, or a first step and the steps of the words from the fifth on.
-- Assumes nothing.
use mathlib.Core.Path.{◌≡◌, refl, ap}
use mathlib.Core.Bool.{Bool, true, false, cond, ◌&&◌}
use mathlib.Core.List.{List, [], ◌∷◌, ◌++◌}
use Prim.Native.Nat.{ℕ, ◌+◌, ◌*◌, ◌%◌, ◌≤◌, ◌<◌}
use native.Mathlib.Omega.{arith}
use lib.Dec.{leb}
use lib.ListN.{length, take, drop, length-append, length-take, length-drop}
use lib.Seq.{take_at}
use borrow.Author.Tests.{leb-true, le-leb}
use Rattle.plan_steps.specs.Steps.{Step, step, steps, step_words, good_step, good_steps}
use Rattle.plan_steps.specs.AsCoded.{put_step, step_at}

pub steps-none : (q : List ℕ) → length q < 4 → steps q ≡ []
unfolding steps
steps-none [] h = refl
steps-none (k ∷ []) h = refl
steps-none (k ∷ j ∷ []) h = refl
steps-none (k ∷ j ∷ m ∷ []) h = refl
steps-none (k ∷ j ∷ m ∷ n ∷ q) h = absurd (omega arith)

pub steps-more : (q : List ℕ) → 4 ≤ length q → steps q ≡ step_at q ∷ steps (drop 4 q)
unfolding steps
steps-more [] h = absurd (omega arith)
steps-more (k ∷ []) h = absurd (omega arith)
steps-more (k ∷ j ∷ []) h = absurd (omega arith)
steps-more (k ∷ j ∷ m ∷ []) h = absurd (omega arith)
steps-more (k ∷ j ∷ m ∷ n ∷ q) h = refl

-- the words of steps
pub words-length : (ss : List Step) → length (step_words ss) ≡ 4 * length ss
unfolding step_words
words-length [] = refl
words-length (s ∷ ss) = omega (arith, words-length ss)

pub words_append : (ss us : List Step) → step_words (ss ++ us) ≡ step_words ss ++ step_words us
unfolding step_words
words_append [] us = refl
words_append (s ∷ ss) us = ap (λ (l : List ℕ). s.kind ∷ s.handle ∷ s.mark ∷ s.number ∷ l) (words_append ss us)

pub words_back : (ss : List Step) → steps (step_words ss) ≡ ss
unfolding step_words steps
words_back [] = refl
words_back (s ∷ ss) = ap (λ (l : List Step). s ∷ l) (words_back ss)

pub good-append : (ss us : List Step) → good_steps (ss ++ us) ≡ (good_steps ss && good_steps us)
unfolding good_steps
good-append [] us = refl
good-append (s ∷ ss) us = rw (good-append ss us) (chain (good_step s) (good_steps ss) (good_steps us))
  where
    chain : (a b c : Bool) → (a && (b && c)) ≡ (a && b && c)
    chain true b c = refl
    chain false b c = refl

-- a step that is written
module _ (b : List ℕ) (at k h m n : ℕ) where
  pub put-in : at + 4 ≤ length b → put_step (step k h m n) at b ≡ take at b ++ (k ∷ h ∷ m ∷ n ∷ []) ++ drop (at + 4) b
  unfolding put_step step_words
  put-in e = rw (le-leb (at + 4) (length b) e)

pub put-length : (s : Step) (at : ℕ) (b : List ℕ) → length (put_step s at b) ≡ length b
unfolding put_step step_words
put-length s at b = by-room (leb (at + 4) (length b)) refl
  where
    by-room : (f : Bool) → leb (at + 4) (length b) ≡ f →
        length (cond f (take at b ++ (s.kind ∷ s.handle ∷ s.mark ∷ s.number ∷ []) ++ drop (at + 4) b) b) ≡ length b
    by-room true e = simp (length-append, length-take, length-drop) (omega (arith, leb-true (at + 4) (length b) e))
    by-room false e = refl

pub put-take : (s : Step) (at : ℕ) (b : List ℕ) → at + 4 ≤ length b → take (at + 4) (put_step s at b) ≡ take at b ++ step_words (s ∷ [])
unfolding step_words
put-take s at b e =
    let w : List ℕ = s.kind ∷ s.handle ∷ s.mark ∷ s.number ∷ [] in
    rw (put-in b at s.kind s.handle s.mark s.number e)
    (take_at (take at b ++ w) (drop (at + 4) b) (at + 4) (simp (length-append, length-take) (omega arith)))

pub words-whole : (q : List ℕ) → length q % 4 ≡ 0 → step_words (steps q) ≡ q
unfolding step_words steps
words-whole [] h = refl
words-whole (k ∷ []) h = absurd (omega (arith, h))
words-whole (k ∷ j ∷ []) h = absurd (omega (arith, h))
words-whole (k ∷ j ∷ m ∷ []) h = absurd (omega (arith, h))
words-whole (k ∷ j ∷ m ∷ n ∷ q) h = ap (λ (l : List ℕ). k ∷ j ∷ m ∷ n ∷ l) (words-whole q (omega (arith, h)))
