-- The public contract allows one result: any two that it allows of the same arguments coincide.
-- Assumes nothing.
use mathlib.Core.Path.{sym, ◌∙◌}
use Rattle.type_layers.proofs.Apart.{verdict-apart}
use Rattle.type_layers.proofs.Single.{Single}
use Rattle.type_roles.proofs.roles.can_be.Kinds as can-be-kinds
use Rattle.type_roles.proofs.roles.can_be.Reads as can-be

pub can-be-single : Single 1 can-be-kinds.ps can-be-kinds.r can-be.Post
can-be-single κs a x y s t p q = verdict-apart x y (p ∙ sym q)
