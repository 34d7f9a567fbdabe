use Rattle.sheet_pairs.proofs.Texts.{rows-room, table-put}
use Rattle.sheet_pairs.proofs.pairs_table.put_table.Goals as goal

pub returns : goal.returns
returns c = table-put _ _ _ c.requires _ c.put.ensures _ c.put_rows.ensures

pub put_rows-requires : goal.put_rows-requires
put_rows-requires c = rows-room _ _ _ c.requires _ c.put.ensures
