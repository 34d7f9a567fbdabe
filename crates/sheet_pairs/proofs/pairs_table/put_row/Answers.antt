use Rattle.sheet_pairs.proofs.Texts.{row-begin, row_room, row_on, row-end}
use Rattle.sheet_pairs.proofs.pairs_table.put_row.Goals as goal

pub loop-j-init : goal.loop-j-init
loop-j-init c = row-begin _ _ _ _ c.requires

pub loop-j-preserved : goal.loop-j-preserved
loop-j-preserved c =
    row_on _ _ _ _ c.requires _ _ c.loop-j.invariant c.loop-j-test.true _ _ c.type_at-left.ensures c.type_at.ensures _ c.put_line.ensures

pub put_line-requires : goal.put_line-requires
put_line-requires c = row_room _ _ _ _ c.requires _ _ c.loop-j.invariant c.loop-j-test.true

pub returns : goal.returns
returns c = row-end _ _ _ _ c.requires _ _ c.loop-j.invariant c.loop-j-test.false
