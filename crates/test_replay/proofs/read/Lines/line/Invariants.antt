use Rattle.std.proofs.Common.{◌≤◌, length}
use Rattle.test_replay.proofs.read.Lines.line.Given as goal

abbrev pub invariant-loop-i : goal.invariant-loop-i
invariant-loop-i l = length l.self.rest.now ≤ length l.initial.self.rest.now
