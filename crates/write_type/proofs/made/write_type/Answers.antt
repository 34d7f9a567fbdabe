use Rattle.write_type.proofs.Outcomes.{too_long, too_short, wrote}
use Rattle.write_type.proofs.made.write_type.Goals as goal

pub returns-then-n-gt-TYPE_WORDS : goal.returns-then-n-gt-TYPE_WORDS
returns-then-n-gt-TYPE_WORDS c = rw c.into.ensures (too_long _ _ _ _ _ c.whole_layers-first.ensures c.whole_layers-after.ensures c.if-n-gt-TYPE_WORDS.true)

pub returns-then-out-n : goal.returns-then-out-n
returns-then-out-n c = rw c.into-then-out-n.ensures (too_short _ _ _ _ _ c.whole_layers-first.ensures c.whole_layers-after.ensures c.if-n-gt-TYPE_WORDS.false c.if-out-n.true)

pub returns : goal.returns
returns c =
    wrote _ _ _ _ _ c.whole_layers-first.ensures c.whole_layers-after.ensures c.if-n-gt-TYPE_WORDS.false _ _ c.if-out-n.false c.write_words.ensures c.write_words-2.ensures
