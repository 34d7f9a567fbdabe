use Rattle.symbol_lent.proofs.Gathering.{rows_next, gather-many}
use Rattle.symbol_lent.proofs.gather_rows.gather.Goals as goal

pub returns-then-table-gt-RECORDS : goal.returns-then-table-gt-RECORDS
returns-then-table-gt-RECORDS c = gather-many _ _ c.if-table-gt-RECORDS.true

pub loop-i-preserved : goal.loop-i-preserved
loop-i-preserved c = rw (rows_next c.args.flat.now c.args.table.now c.loop-i.i, ← c.loop-i.invariant) c.put_row.ensures
