use Rattle.sheet_pairs.proofs.Texts.{line-put}
use Rattle.sheet_pairs.proofs.line.put_line.Goals as goal

pub returns : goal.returns
returns c =
    line-put _ _ _ _ _ _ _ _ _ _ c.requires.0 c.put_number.ensures c.put.ensures c.put_number-2.ensures c.answers.ensures c.put-2.ensures
