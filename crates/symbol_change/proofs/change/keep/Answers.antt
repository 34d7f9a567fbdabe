use mathlib.Core.Path.{refl}
use Rattle.write_answer.specs.Flat.{accepted}
use Rattle.symbol_change.proofs.Decided.{is-accepted}
use Rattle.symbol_change.proofs.change.keep.Goals as goal

pub returns : goal.returns
returns c = is-accepted _ _ _ c.in_order.ensures (accepted 0) _ c.if-not-in_order.false refl refl
