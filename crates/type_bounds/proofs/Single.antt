-- Each public contract allows one result: any two that it allows of the same arguments coincide.
-- Assumes nothing.
use mathlib.Core.Path.{sym, ◌∙◌}
use Rattle.type_layers.proofs.Single.{Single}
use Rattle.type_layers.proofs.Apart.{result-apart}
use Rattle.type_bounds.proofs.bound.HalvesFromU128.from.Kinds as from-kinds
use Rattle.type_bounds.proofs.bound.HalvesFromU128.from.Reads as from
use Rattle.type_bounds.proofs.min_and_max.min_i128.Kinds as min-i128-kinds
use Rattle.type_bounds.proofs.min_and_max.min_i128.Reads as min-i128
use Rattle.type_bounds.proofs.min_and_max.max_u128.Kinds as max-u128-kinds
use Rattle.type_bounds.proofs.min_and_max.max_u128.Reads as max-u128

pub from-single : Single 0 from-kinds.ps from-kinds.r from.Post
from-single κs a x y s t p q = p ∙ sym q

pub min-i128-single : Single 1 min-i128-kinds.ps min-i128-kinds.r min-i128.Post
min-i128-single κs a x y s t p q = result-apart x y (p ∙ sym q)

pub max-u128-single : Single 1 max-u128-kinds.ps max-u128-kinds.r max-u128.Post
max-u128-single κs a x y s t p q = result-apart x y (p ∙ sym q)
