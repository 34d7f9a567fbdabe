use Rattle.trestlejay.proofs.Made.{alone}
use Rattle.trestlejay.proofs.strings.hand_out.Goals as goal

pub returns-clause-answer : goal.returns-clause-answer
returns-clause-answer c = (alone c.args.t.now c.args.out.now _ _ _ c.write_type.ensures c.from.ensures).0

pub returns-clause-written : goal.returns-clause-written
returns-clause-written c = (alone c.args.t.now c.args.out.now _ _ _ c.write_type.ensures c.from.ensures).1
