-- Each public contract allows one result: any two that it allows of the same arguments coincide.
-- Assumes nothing.
use mathlib.Core.Path.{sym, ◌∙◌}
use Rattle.type_layers.proofs.Apart.{verdict-apart}
use Rattle.type_layers.proofs.Single.{Single}
use Rattle.type_wellformed.proofs.well_formed.is_wellformed.Kinds as is-wellformed-kinds
use Rattle.type_wellformed.proofs.well_formed.is_wellformed.Reads as is-wellformed
use Rattle.type_wellformed.proofs.well_formed.wellformed.Kinds as wellformed-kinds
use Rattle.type_wellformed.proofs.well_formed.wellformed.Reads as wellformed

pub is-wellformed-single : Single 1 is-wellformed-kinds.ps is-wellformed-kinds.r is-wellformed.Post
is-wellformed-single κs a x y s t p q = p ∙ sym q

pub wellformed-single : Single 1 wellformed-kinds.ps wellformed-kinds.r wellformed.Post
wellformed-single κs a x y s t p q = verdict-apart x y (p ∙ sym q)
