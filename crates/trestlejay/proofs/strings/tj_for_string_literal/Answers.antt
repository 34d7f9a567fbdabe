use Rattle.trestlejay.proofs.Made.{spells}
use Rattle.trestlejay.proofs.strings.tj_for_string_literal.Goals as goal

pub returns-clause-answer : goal.returns-clause-answer
returns-clause-answer c = (spells _ c.args.out.now _ _ _ c.for_string_literal.ensures (c.hand_out.ensures.answer, c.hand_out.ensures.written)).0

pub returns-clause-written : goal.returns-clause-written
returns-clause-written c = (spells _ c.args.out.now _ _ _ c.for_string_literal.ensures (c.hand_out.ensures.answer, c.hand_out.ensures.written)).1
