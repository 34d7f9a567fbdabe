use Rattle.trestlejay.proofs.Told.{relation-direct}
use Rattle.trestlejay.proofs.relations.related.Goals as goal

pub returns-then-are_types : goal.returns-then-are_types
returns-then-are_types c = relation-direct _ _ _ c.are_types.ensures c.if-are_types.true _ _ c.holds.ensures _ c.from.ensures _ c.accepted.ensures
