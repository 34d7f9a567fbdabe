-- The public contract allows one result: any two that it allows of the same arguments coincide.
-- Assumes nothing.
use mathlib.Core.Path.{sym, ◌∙◌}
use Rattle.type_layers.proofs.Single.{Single}
use Rattle.symbol_order.proofs.order.in_order.Kinds.{ps, r}
use Rattle.symbol_order.proofs.order.in_order.Reads.{Post}

pub in-order-single : Single 3 ps r Post
in-order-single κs a x y s t p q = p ∙ sym q
