-- Each public contract allows one result: any two that it allows of the same arguments coincide.
-- Assumes nothing.
use mathlib.Core.Path.{◌≡◌, sym, ◌∙◌}
use mathlib.Core.List.{List}
use Prim.Native.Nat.{ℕ}
use contract.Lifetimes.{Lfts}
use denote.Triple.Clauses.{AtExit}
use borrow.Fn.Kinds.{ParamKind, ResultKind, Out, Dens, res_t, ended_of}
use Rattle.type_numbers.proofs.refusal.U64FromRefusal.from.Kinds as refusal-kinds
use Rattle.type_numbers.proofs.refusal.U64FromRefusal.from.Reads as refusal
use Rattle.type_numbers.proofs.Contexts.{one-reading}
use Rattle.type_numbers.proofs.context.ContextTryFromU64.try_from.Kinds as context-kinds
use Rattle.type_numbers.proofs.context.ContextTryFromU64.try_from.Reads as context
use Rattle.type_numbers.proofs.effect.U64FromEffect.from.Kinds as effect-kinds
use Rattle.type_numbers.proofs.effect.U64FromEffect.from.Reads as effect
use Rattle.type_layers.proofs.answers.RefusedFromRefusal.from.Kinds as refused-kinds
use Rattle.type_layers.proofs.answers.RefusedFromRefusal.from.Reads as refused
use Rattle.type_layers.proofs.sorts.is_array.Kinds as is-array-kinds
use Rattle.type_layers.proofs.sorts.is_array.Reads as is-array
use Rattle.type_layers.proofs.sorts.is_slice.Kinds as is-slice-kinds
use Rattle.type_layers.proofs.sorts.is_slice.Reads as is-slice
use Rattle.type_layers.proofs.sorts.is_reference.Kinds as is-reference-kinds
use Rattle.type_layers.proofs.sorts.is_reference.Reads as is-reference
use Rattle.type_layers.proofs.sorts.holds_inner.Kinds as holds-inner-kinds
use Rattle.type_layers.proofs.sorts.holds_inner.Reads as holds-inner
use Rattle.type_layers.proofs.outer_and_inner.outer.Kinds as outer-kinds
use Rattle.type_layers.proofs.outer_and_inner.outer.Reads as outer
use Rattle.type_layers.proofs.outer_and_inner.inner.Kinds as part-kinds
use Rattle.type_layers.proofs.outer_and_inner.inner.Reads as inner

abbrev pub Single : (n : ℕ) (ps : List (ParamKind n)) (r : ResultKind n) → Out n ps r → Type 0
Single n ps r Q =
    (κs : Lfts n) (a : Dens κs ps) (x y : (res_t r κs).Denot) (s t : AtExit (ended_of n ps r) κs) → Q κs a x s → Q κs a y t → x ≡ y

pub refusal-single : Single 0 refusal-kinds.ps refusal-kinds.r refusal.Post
refusal-single κs a x y s t p q = p ∙ sym q

pub context-single : Single 0 context-kinds.ps context-kinds.r context.Post
context-single κs a x y s t p q = one-reading a.0 x y p q

pub effect-single : Single 0 effect-kinds.ps effect-kinds.r effect.Post
effect-single κs a x y s t p q = p ∙ sym q

pub refused-single : Single 0 refused-kinds.ps refused-kinds.r refused.Post
refused-single κs a x y s t p q = p ∙ sym q

pub is-array-single : Single 0 is-array-kinds.ps is-array-kinds.r is-array.Post
is-array-single κs a x y s t p q = p ∙ sym q

pub is-slice-single : Single 0 is-slice-kinds.ps is-slice-kinds.r is-slice.Post
is-slice-single κs a x y s t p q = p ∙ sym q

pub is-reference-single : Single 0 is-reference-kinds.ps is-reference-kinds.r is-reference.Post
is-reference-single κs a x y s t p q = p ∙ sym q

pub holds-inner-single : Single 0 holds-inner-kinds.ps holds-inner-kinds.r holds-inner.Post
holds-inner-single κs a x y s t p q = p ∙ sym q

pub outer-single : Single 1 outer-kinds.ps outer-kinds.r outer.Post
outer-single κs a x y s t p q = p ∙ sym q

-- of a part that is handed back, the words coincide
abbrev pub SinglePart : Out 1 part-kinds.ps part-kinds.r → Type 0
SinglePart Q =
    (κs : Lfts 1) (a : Dens κs part-kinds.ps) (x y : (res_t part-kinds.r κs).Denot) (s t : AtExit (ended_of 1 part-kinds.ps part-kinds.r) κs) →
    Q κs a x s → Q κs a y t → x.now ≡ y.now

pub inner-single : SinglePart inner.Post
inner-single κs a x y s t p q = p ∙ sym q
