use lib.ListN.{take}
use Rattle.sheet_contents.specs.Contents.{types}
use Rattle.sheet_text.specs.AsCoded.{Puts}
use Rattle.sheet_pairs.specs.Text.{each}
use Rattle.sheet_pairs.proofs.Texts.{line_of}
use Rattle.sheet_pairs.proofs.pairs_table.put_row.Given as goal

abbrev pub invariant-loop-j : goal.invariant-loop-j
invariant-loop-j l = Puts (each (line_of l.words l.i) 1 (take l.j (types l.words))) l.initial.to l.to
