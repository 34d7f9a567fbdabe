-- Each public contract allows one result: any two that it allows of the same arguments coincide.
-- Assumes nothing.
use mathlib.Core.Path.{sym, ◌∙◌}
use Rattle.type_layers.proofs.Apart.{result-apart}
use Rattle.type_layers.proofs.Single.{Single}
use Rattle.type_first_refusal.proofs.first_refusal.check_type.Kinds as check-type-kinds
use Rattle.type_first_refusal.proofs.first_refusal.check_type.Reads as check-type
use Rattle.type_first_refusal.proofs.first_refusal.check_types.Kinds as check-types-kinds
use Rattle.type_first_refusal.proofs.first_refusal.check_types.Reads as check-types

pub check-type-single : Single 1 check-type-kinds.ps check-type-kinds.r check-type.Post
check-type-single κs a x y s t p q = result-apart x y (p ∙ sym q)

pub check-types-single : Single 2 check-types-kinds.ps check-types-kinds.r check-types.Post
check-types-single κs a x y s t p q = result-apart x y (p ∙ sym q)
