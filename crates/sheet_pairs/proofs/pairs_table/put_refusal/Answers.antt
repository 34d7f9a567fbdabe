use Rattle.sheet_pairs.proofs.Texts.{refusal-put}
use Rattle.sheet_pairs.proofs.pairs_table.put_refusal.Goals as goal

pub returns : goal.returns
returns c =
    refusal-put _ _ _ _ _ c.requires.0 c.put.ensures (rw c.from.ensures at c.put_number.ensures) c.put-2.ensures
