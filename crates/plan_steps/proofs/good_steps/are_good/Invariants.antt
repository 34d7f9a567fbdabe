use lib.ListN.{length}
use mathlib.Core.Path.{◌≡◌}
use Rattle.plan_steps.specs.Steps.{steps, good_steps}
use Rattle.plan_steps.proofs.good_steps.are_good.Given as goal

abbrev pub invariant-loop-left : goal.invariant-loop-left
invariant-loop-left l = good_steps (steps l.left) ≡ good_steps (steps l.ws)

abbrev pub decreases-loop-left : goal.decreases-loop-left
decreases-loop-left l = length l.left
