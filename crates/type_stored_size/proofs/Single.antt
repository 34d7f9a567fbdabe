-- Each public contract allows one result: any two that it allows of the same arguments coincide.
-- Assumes nothing.
use mathlib.Core.Path.{sym, ◌∙◌}
use Rattle.type_layers.proofs.Single.{Single}
use Rattle.type_layers.proofs.Apart.{found-apart}
use Rattle.type_stored_size.proofs.stored_sizes.stored_size.Kinds as stored-size-kinds
use Rattle.type_stored_size.proofs.stored_sizes.stored_size.Reads as stored-size

pub stored-size-single : Single 1 stored-size-kinds.ps stored-size-kinds.r stored-size.Post
stored-size-single κs a x y s t p q = found-apart x y (p ∙ sym q)
