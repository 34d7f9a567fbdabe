use Rattle.sheet_contents.proofs.Counts.{bad-count, good-count, summed}
use Rattle.sheet_contents.proofs.bodies.total.Goals as goal

pub returns-then-not-up_to-clause-is : goal.returns-then-not-up_to-clause-is
returns-then-not-up_to-clause-is c = search bad-count

pub loop-count-preserved : goal.loop-count-preserved
loop-count-preserved c = search good-count

pub returns-clause-is : goal.returns-clause-is
returns-clause-is c = search summed
