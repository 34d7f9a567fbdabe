use Rattle.symbol_get.proofs.Looking.{get_refused}
use Rattle.symbol_get.proofs.get.look.Goals as goal

pub returns-then-not-in_order : goal.returns-then-not-in_order
returns-then-not-in_order c = search get_refused
