use Rattle.write_words.proofs.Writing.{Begun}
use Rattle.write_words.proofs.front.write_words.Given as goal

abbrev pub invariant-loop-i : goal.invariant-loop-i
invariant-loop-i l = Begun l.words l.initial.out l.out l.i
