-- The public contract allows one result: any two that it allows of the same arguments coincide.
-- Assumes nothing.
use mathlib.Core.Path.{sym, ◌∙◌}
use Rattle.type_layers.proofs.Single.{Single}
use Rattle.type_layers.proofs.Apart.{found-apart}
use Rattle.type_part_starts.proofs.part_starts.start_of.Kinds as start-of-kinds
use Rattle.type_part_starts.proofs.part_starts.start_of.Reads as start-of

pub start-of-single : Single 1 start-of-kinds.ps start-of-kinds.r start-of.Post
start-of-single κs a x y s t p q = found-apart x y (p ∙ sym q)
