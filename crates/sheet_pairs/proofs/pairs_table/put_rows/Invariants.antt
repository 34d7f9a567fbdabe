use lib.ListN.{take}
use Rattle.sheet_contents.specs.Contents.{types}
use Rattle.sheet_text.specs.AsCoded.{Puts}
use Rattle.sheet_pairs.specs.Text.{each, row}
use Rattle.sheet_pairs.proofs.pairs_table.put_rows.Given as goal

abbrev pub invariant-loop-i : goal.invariant-loop-i
invariant-loop-i l = Puts (each (row (types l.words)) 1 (take l.i (types l.words))) l.initial.to l.to
