-- Each public contract allows one result: any two that it allows of the same arguments coincide.
-- Assumes nothing.
use mathlib.Core.Path.{sym, ◌∙◌}
use Rattle.type_layers.proofs.Single.{Single}
use Rattle.relation_declared.proofs.declared.can_be_declared_as.Kinds.{ps, r}
use Rattle.relation_declared.proofs.declared.can_be_declared_as.Reads as can-be-declared-as
use Rattle.relation_declared.proofs.concretization.can_be_concretization_of.Reads as can-be-concretization-of
use Rattle.relation_declared.proofs.like.is_like.Reads as is-like

pub can-be-declared-as-single : Single 2 ps r can-be-declared-as.Post
can-be-declared-as-single κs a x y s t p q = p ∙ sym q

pub can-be-concretization-of-single : Single 2 ps r can-be-concretization-of.Post
can-be-concretization-of-single κs a x y s t p q = p ∙ sym q

pub is-like-single : Single 2 ps r is-like.Post
is-like-single κs a x y s t p q = p ∙ sym q
