-- Each public contract allows one result: any two that it allows of the same arguments coincide.
-- Assumes nothing.
use mathlib.Core.Path.{sym, ◌∙◌}
use Rattle.type_layers.proofs.Single.{Single}
use Rattle.relation_equals.proofs.identical_and_equals.identical.Kinds.{ps, r}
use Rattle.relation_equals.proofs.identical_and_equals.identical.Reads as identical
use Rattle.relation_equals.proofs.identical_and_equals.equals.Reads as equals

pub identical-single : Single 2 ps r identical.Post
identical-single κs a x y s t p q = p ∙ sym q

pub equals-single : Single 2 ps r equals.Post
equals-single κs a x y s t p q = p ∙ sym q
