use mathlib.Core.Path.{◌≡◌}
use lib.ListN.{drop}
use Rattle.type_layers.specs.Answer.{given}
use Rattle.sheet_contents.specs.Contents.{types}
use Rattle.sheet_read.specs.Sheet.{check_all, read_words}
use Rattle.sheet_read.proofs.reading.read_words.Given as goal

abbrev pub invariant-loop-k : goal.invariant-loop-k
invariant-loop-k l = check_all (drop l.k (types l.words)) (given l.n) ≡ read_words l.words
