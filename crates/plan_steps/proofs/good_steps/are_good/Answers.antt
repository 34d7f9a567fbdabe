use Rattle.std.proofs.Common.{arith}
use Rattle.type_layers.proofs.Words.{part-is}
use Rattle.plan_steps.proofs.Passing.{good_by_first}
use Rattle.plan_steps.proofs.good_steps.are_good.Goals as goal

pub loop-left-preserved : goal.loop-left-preserved
loop-left-preserved c = rw (part-is c.loop-left.left.now 4) (grind (arith, good_by_first))
