use Rattle.sheet_contents.proofs.Counts.{Summed}
use Rattle.sheet_contents.proofs.bodies.total.Given as goal

abbrev pub invariant-loop-count : goal.invariant-loop-count
invariant-loop-count l = Summed l.counts l.sum l.count-index
