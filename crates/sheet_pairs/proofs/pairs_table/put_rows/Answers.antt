use Rattle.sheet_pairs.proofs.Texts.{table-begin, table-room, table_on, table-end}
use Rattle.sheet_pairs.proofs.pairs_table.put_rows.Goals as goal

pub loop-i-init : goal.loop-i-init
loop-i-init c = table-begin _ _ _ c.requires

pub put_row-requires : goal.put_row-requires
put_row-requires c = table-room _ _ _ c.requires _ _ c.loop-i.invariant c.loop-i-test.true

pub loop-i-preserved : goal.loop-i-preserved
loop-i-preserved c = table_on _ _ _ c.requires _ _ c.loop-i.invariant c.loop-i-test.true _ c.put_row.ensures

pub returns : goal.returns
returns c = table-end _ _ _ c.requires _ _ c.loop-i.invariant c.loop-i-test.false
