use Rattle.sheet_words.proofs.Decoding.{begun, word_more, decoded, too_many}
use Rattle.sheet_words.proofs.decode_words.words_of.Goals as goal

pub loop-i-init : goal.loop-i-init
loop-i-init c = begun c.args.bytes.now

pub loop-i-preserved : goal.loop-i-preserved
loop-i-preserved c =
    word_more _ _ _ _ c.loop-i.invariant c.loop-i-test.true c.as_chunks.ensures.front_len c.if-chunks-le1569.true _ c.as_chunks.ensures.front _ _ c.from_le_bytes.ensures

pub returns-after-loop-i : goal.returns-after-loop-i
returns-after-loop-i c =
    decoded _ _ _ _ c.loop-i.invariant c.loop-i.auto.i-end c.loop-i-test.false c.as_chunks.ensures.front_len c.if-chunks-le1569.true

pub returns-else-chunks-le1569 : goal.returns-else-chunks-le1569
returns-else-chunks-le1569 c = too_many c.args.bytes.now (rw c.as_chunks.ensures.front_len at c.if-chunks-le1569.false)
