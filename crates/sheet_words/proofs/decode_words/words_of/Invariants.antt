use Rattle.sheet_words.proofs.Decoding.{so_far}
use Rattle.sheet_words.proofs.decode_words.words_of.Given as goal

abbrev pub invariant-loop-i : goal.invariant-loop-i
invariant-loop-i l = so_far l.bytes l.i l.words
