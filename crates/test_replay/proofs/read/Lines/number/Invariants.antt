use Rattle.std.proofs.Common.{◌≡◌, ◌+◌, length}
use Rattle.test_replay.proofs.read.Lines.number.Given as goal

abbrev pub invariant-loop-i : goal.invariant-loop-i
invariant-loop-i l = length l.self.rest.now + l.i ≡ length l.text
