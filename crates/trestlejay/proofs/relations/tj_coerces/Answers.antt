use mathlib.Core.Path.{ap, ◌∙◌}
use Rattle.write_answer.specs.Flat.{flat}
use Rattle.trestlejay.proofs.Told.{coercion-direct}
use Rattle.trestlejay.proofs.relations.tj_coerces.Goals as goal

pub returns-then-are_types : goal.returns-then-are_types
returns-then-are_types c = coercion-direct _ _ _ c.are_types.ensures c.if-are_types.true _ c.coerces.ensures _ c.from.ensures _ c.accepted.ensures

pub returns-in-Ok : goal.returns-in-Ok
unfolding flat
returns-in-Ok c = c.accepted-in-Ok.ensures ∙ rw c.from-in-Ok.ensures (ap flat c.in-Ok.ensures)

pub returns-in-Err : goal.returns-in-Err
unfolding flat
returns-in-Err c = c.into.ensures ∙ ap flat c.in-Err.ensures
