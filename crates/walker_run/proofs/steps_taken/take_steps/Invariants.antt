use lib.ListN.{length}
use Rattle.walker_run.proofs.Stepping.{Reached}
use Rattle.walker_run.proofs.steps_taken.take_steps.Given as goal

abbrev pub invariant-loop-rest : goal.invariant-loop-rest
invariant-loop-rest l = Reached l.table l.known l.steps l.cur l.desliced l.rest l.place

abbrev pub decreases-loop-rest : goal.decreases-loop-rest
decreases-loop-rest l = length l.rest
