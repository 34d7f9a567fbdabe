-- The checks of a run of step words, one step after the other.
-- Assumes nothing.
use mathlib.Core.Path.{◌≡◌, refl}
use mathlib.Core.Bool.{Bool, true, false, cond, ◌&&◌}
use mathlib.Core.List.{List}
use Prim.Native.Nat.{ℕ, ◌/◌, ◌%◌, ◌≤◌, ◌<◌}
use lib.Dec.{eqb, leb}
use lib.ListN.{length, drop}
use borrow.Author.Tests.{eqb-true}
use Rattle.type_layers.specs.Answer.{given, refused}
use Rattle.plan_steps.specs.Steps.{steps, good_step, good_steps, steps_answer}
use Rattle.plan_steps.specs.AsCoded.{step_at}
use Rattle.plan_steps.proofs.Words.{steps-none, steps-more}

-- whether all are good, by the first
pub good-none : (q : List ℕ) → length q < 4 → good_steps (steps q) ≡ true
unfolding good_steps
good-none q h = rw (steps-none q h)

pub good-more : (q : List ℕ) → 4 ≤ length q → good_steps (steps q) ≡ (good_step (step_at q) && good_steps (steps (drop 4 q)))
unfolding good_steps
good-more q h = rw (steps-more q h)

pub ruleset good_by_first = (good-none, good-more)

-- words that are steps are whole steps
pub steps-whole : (most : ℕ) (ws : List ℕ) (j : ℕ) → steps_answer most ws ≡ given j → length ws % 4 ≡ 0
unfolding steps_answer
steps-whole most ws j e = by-test (eqb (length ws % 4) 0) refl e
  where
    by-test : (f : Bool) → eqb (length ws % 4) 0 ≡ f →
        cond (f && leb (length ws / 4) most && good_steps (steps ws)) (given (length ws / 4)) (refused 5 0) ≡ given j → length ws % 4 ≡ 0
    by-test true p e = eqb-true (length ws % 4) 0 p
    by-test false p e = cc
