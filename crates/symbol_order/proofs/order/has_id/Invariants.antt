use mathlib.Core.Path.{◌≡◌}
use Rattle.symbol_columns.specs.AsCoded.{read_from}
use Rattle.symbol_order.specs.Order.{has_id}
use Rattle.symbol_order.proofs.order.has_id.Given as goal

abbrev pub invariant-loop-other : goal.invariant-loop-other
invariant-loop-other l = l.hit ≡ has_id l.id (read_from l.columns 0 l.other-index)
