-- Each public contract allows one result: any two that it allows of the same arguments coincide.
-- Assumes nothing.
use mathlib.Core.Path.{sym, ap, ◌∙◌}
use Rattle.type_layers.proofs.Single.{Single}
use Rattle.symbol_operations.proofs.Coded.{coded, is-coded, coded-asked, is-asked}
use Rattle.symbol_operations.proofs.operation.OperationFromOffer.from.Kinds as put-kinds
use Rattle.symbol_operations.proofs.operation.OperationFromOffer.from.Reads as put
use Rattle.symbol_operations.proofs.operation.OperationFromDeclared.from.Kinds as forward-kinds
use Rattle.symbol_operations.proofs.operation.OperationFromDeclared.from.Reads as forward
use Rattle.symbol_operations.proofs.operation.Operation.act.Kinds as act-of-kinds
use Rattle.symbol_operations.proofs.operation.Operation.act.Reads as act-of
use Rattle.symbol_operations.proofs.operation.Act.offers_type.Kinds as offers-type-kinds
use Rattle.symbol_operations.proofs.operation.Act.offers_type.Reads as offers-type

pub put-single : Single 0 put-kinds.ps put-kinds.r put.Post
put-single κs a x y s t p q = is-coded x ∙ ap coded (p ∙ sym q) ∙ sym (is-coded y)

pub forward-single : Single 0 forward-kinds.ps forward-kinds.r forward.Post
forward-single κs a x y s t p q = is-coded x ∙ ap coded (p ∙ sym q) ∙ sym (is-coded y)

pub act-of-single : Single 0 act-of-kinds.ps act-of-kinds.r act-of.Post
act-of-single κs a x y s t p q = is-asked x ∙ ap coded-asked (p ∙ sym q) ∙ sym (is-asked y)

pub offers-type-single : Single 0 offers-type-kinds.ps offers-type-kinds.r offers-type.Post
offers-type-single κs a x y s t p q = p ∙ sym q
