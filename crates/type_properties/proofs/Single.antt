-- The public contract allows one result: any two that it allows of the same arguments coincide.
-- Assumes nothing.
use mathlib.Core.Path.{sym, ◌∙◌}
use Rattle.type_layers.proofs.Apart.{verdict-apart}
use Rattle.type_layers.proofs.Single.{Single}
use Rattle.type_properties.proofs.properties.has.Kinds as has-kinds
use Rattle.type_properties.proofs.properties.has.Reads as has

pub has-single : Single 1 has-kinds.ps has-kinds.r has.Post
has-single κs a x y s t p q = verdict-apart x y (p ∙ sym q)
