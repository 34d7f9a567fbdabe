-- Each public contract allows one result: any two that it allows of the same arguments coincide.
-- Assumes nothing.
use mathlib.Core.Path.{sym, ◌∙◌}
use Rattle.type_layers.proofs.Single.{Single}
use Rattle.type_checks.proofs.type_test.is_type.Kinds as is-type-kinds
use Rattle.type_checks.proofs.type_test.is_type.Reads as is-type

pub is-type-single : Single 1 is-type-kinds.ps is-type-kinds.r is-type.Post
is-type-single κs a x y s t p q = p ∙ sym q
