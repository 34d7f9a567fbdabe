use Rattle.std.proofs.Common.{◌+◌, ◌≤◌, length}
use Rattle.test_replay.proofs.compare.run_all.Given as goal

abbrev pub invariant-loop-lines : goal.invariant-loop-lines
invariant-loop-lines g l = (l.cases + length l.lines.rest.now ≤ length l.text) × (l.failed ≤ l.cases)

abbrev pub decreases-loop-lines : goal.decreases-loop-lines
decreases-loop-lines g l = length l.lines.rest.now
