-- Each public contract allows one result: any two that it allows of the same arguments coincide.
-- Assumes nothing.
use mathlib.Core.Path.{sym, ◌∙◌}
use Rattle.type_layers.proofs.Single.{Single}
use Rattle.type_builders.proofs.layer.Layer.plain.Kinds as plain-kinds
use Rattle.type_builders.proofs.layer.Layer.plain.Reads as plain
use Rattle.type_builders.proofs.strings.for_string_literal.Kinds as literal-kinds
use Rattle.type_builders.proofs.strings.for_string_literal.Reads as literal
use Rattle.type_builders.proofs.strings.for_string_slice.Kinds as slice-kinds
use Rattle.type_builders.proofs.strings.for_string_slice.Reads as slice
use Rattle.type_builders.proofs.layer_pair.two_layers.Kinds as two-layers-kinds
use Rattle.type_builders.proofs.layer_pair.two_layers.Reads as two-layers

pub plain-single : Single 0 plain-kinds.ps plain-kinds.r plain.Post
plain-single κs a x y s t p q = p ∙ sym q

pub two-layers-single : Single 0 two-layers-kinds.ps two-layers-kinds.r two-layers.Post
two-layers-single κs a x y s t p q = p ∙ sym q

pub for-string-literal-single : Single 0 literal-kinds.ps literal-kinds.r literal.Post
for-string-literal-single κs a x y s t p q = p ∙ sym q

pub for-string-slice-single : Single 0 slice-kinds.ps slice-kinds.r slice.Post
for-string-slice-single κs a x y s t p q = p ∙ sym q
