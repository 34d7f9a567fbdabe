-- Each contract of the C face allows one answer, and one value behind each pointer that was lent.
-- Assumes nothing.
use mathlib.Core.Path.{◌≡◌, refl, sym, ◌∙◌}
use seplogic.Ra.Ura.{Ura}
use base.Logic.{SProp}
use prog.Memory.{Memory}
use prog.Routine.{Routine}
use types.Logic.{Logic}
use contract.Monad.{Fun}
use denote.Triple.Entry.{Args}
use Rattle.symbol_columns.proofs.Single.{Walked}
use contract.Lifetimes.{Lfts}
use denote.Triple.Clauses.{AtExit}
use borrow.Fn.Kinds.{Out, Dens, res_t, ended_of}
use Rattle.type_layers.proofs.Single.{Single}
use Rattle.trestlejay.proofs.properties.tj_check.Kinds as of-type
use Rattle.trestlejay.proofs.relations.tj_equals.Kinds as of_pair
use Rattle.trestlejay.proofs.measures.tj_known_size_in_bytes_as_word_member.Kinds as with_size
use Rattle.trestlejay.proofs.measures.tj_stored_size.Kinds as with-width
use Rattle.trestlejay.proofs.measures.tj_min_i128.Kinds as with-halves
use Rattle.trestlejay.proofs.fixing.tj_fix_type_for_flags.Kinds as with-buffer
use Rattle.trestlejay.proofs.properties.tj_check.Reads as tj-check
use Rattle.trestlejay.proofs.properties.tj_is_wellformed.Reads as tj-is-wellformed
use Rattle.trestlejay.proofs.properties.tj_is_void.Reads as tj-is-void
use Rattle.trestlejay.proofs.properties.tj_is_integral.Reads as tj-is-integral
use Rattle.trestlejay.proofs.properties.tj_is_signed.Reads as tj-is-signed
use Rattle.trestlejay.proofs.properties.tj_is_bitfield.Reads as tj-is-bitfield
use Rattle.trestlejay.proofs.properties.tj_is_slice_pointer.Reads as tj-is-slice-pointer
use Rattle.trestlejay.proofs.roles.tj_can_be_sized.Reads as tj-can-be-sized
use Rattle.trestlejay.proofs.roles.tj_can_be_struct_member.Reads as tj-can-be-struct-member
use Rattle.trestlejay.proofs.roles.tj_can_be_word_member.Reads as tj-can-be-word-member
use Rattle.trestlejay.proofs.roles.tj_can_be_constant.Reads as tj-can-be-constant
use Rattle.trestlejay.proofs.roles.tj_can_be_variable.Reads as tj-can-be-variable
use Rattle.trestlejay.proofs.roles.tj_can_be_parameter.Reads as tj-can-be-parameter
use Rattle.trestlejay.proofs.roles.tj_can_be_returned.Reads as tj-can-be-returned
use Rattle.trestlejay.proofs.parts.tj_get_element_type.Reads as tj-get-element-type
use Rattle.trestlejay.proofs.parts.tj_get_pointee_type.Reads as tj-get-pointee-type
use Rattle.trestlejay.proofs.parts.tj_get_viewee_type.Reads as tj-get-viewee-type
use Rattle.trestlejay.proofs.parts.tj_fully_dereferenced.Reads as tj-fully-dereferenced
use Rattle.trestlejay.proofs.measures.tj_pointer_depth.Reads as tj-pointer-depth
use Rattle.trestlejay.proofs.measures.tj_known_size_in_bytes_as_word_member.Reads as tj-known-size-in-bytes-as-word-member
use Rattle.trestlejay.proofs.measures.tj_stored_size.Reads as tj-stored-size
use Rattle.trestlejay.proofs.measures.tj_min_i128.Reads as tj-min-i128
use Rattle.trestlejay.proofs.measures.tj_max_u128.Reads as tj-max-u128
use Rattle.trestlejay.proofs.relations.tj_identical.Reads as tj-identical
use Rattle.trestlejay.proofs.relations.tj_equals.Reads as tj-equals
use Rattle.trestlejay.proofs.relations.tj_is_like.Reads as tj-is-like
use Rattle.trestlejay.proofs.relations.tj_can_be_declared_as.Reads as tj-can-be-declared-as
use Rattle.trestlejay.proofs.relations.tj_can_be_concretization_of.Reads as tj-can-be-concretization-of
use Rattle.trestlejay.proofs.relations.tj_coerces.Reads as tj-coerces
use Rattle.trestlejay.proofs.relations.tj_can_autoderef_into.Reads as tj-can-autoderef-into
use Rattle.trestlejay.proofs.relations.tj_can_subautoderef_into.Reads as tj-can-subautoderef-into
use Rattle.trestlejay.proofs.fixing.tj_fix_type_for_flags.Reads as tj-fix-type-for-flags
use Rattle.trestlejay.proofs.strings.tj_for_string_literal.Kinds as of-literal
use Rattle.trestlejay.proofs.strings.tj_for_string_literal.Reads as tj-for-string-literal
use Rattle.trestlejay.proofs.strings.tj_for_string_slice.Kinds as of-string-slice
use Rattle.trestlejay.proofs.strings.tj_for_string_slice.Reads as tj-for-string-slice
use Rattle.trestlejay.proofs.sheets.tj_read_sheet.Kinds as of-sheet
use Rattle.trestlejay.proofs.sheets.tj_read_sheet.Reads as tj-read-sheet
use Rattle.trestlejay.specs.contracts.records.tj_update_symbol as tj-update-symbol
use Rattle.trestlejay.specs.contracts.records.tj_put_nothing as tj-put-nothing
use Rattle.trestlejay.specs.contracts.records.tj_put_type as tj-put-type
use Rattle.trestlejay.specs.contracts.records.tj_put_poison as tj-put-poison
use Rattle.trestlejay.specs.contracts.records.tj_forward_declare_type as tj-forward-declare-type
use Rattle.trestlejay.specs.contracts.records.tj_forward_declare_poison as tj-forward-declare-poison
use Rattle.trestlejay.specs.contracts.records.tj_get_symbol as tj-get-symbol
use Rattle.trestlejay.specs.contracts.plans.tj_autoderef as tj-autoderef
use Rattle.trestlejay.specs.contracts.plans.tj_walk as tj-walk

abbrev SingleOfType : Out 1 of-type.ps of-type.r → Type 0
SingleOfType Q = Single 1 of-type.ps of-type.r Q

pub tj-check-single : SingleOfType tj-check.Post
tj-check-single κs a x y s t p q = p ∙ sym q

pub tj-is-wellformed-single : SingleOfType tj-is-wellformed.Post
tj-is-wellformed-single κs a x y s t p q = p ∙ sym q

pub tj-is-void-single : SingleOfType tj-is-void.Post
tj-is-void-single κs a x y s t p q = p ∙ sym q

pub tj-is-integral-single : SingleOfType tj-is-integral.Post
tj-is-integral-single κs a x y s t p q = p ∙ sym q

pub tj-is-signed-single : SingleOfType tj-is-signed.Post
tj-is-signed-single κs a x y s t p q = p ∙ sym q

pub tj-is-bitfield-single : SingleOfType tj-is-bitfield.Post
tj-is-bitfield-single κs a x y s t p q = p ∙ sym q

pub tj-is-slice-pointer-single : SingleOfType tj-is-slice-pointer.Post
tj-is-slice-pointer-single κs a x y s t p q = p ∙ sym q

pub tj-can-be-sized-single : SingleOfType tj-can-be-sized.Post
tj-can-be-sized-single κs a x y s t p q = p ∙ sym q

pub tj-can-be-struct-member-single : SingleOfType tj-can-be-struct-member.Post
tj-can-be-struct-member-single κs a x y s t p q = p ∙ sym q

pub tj-can-be-word-member-single : SingleOfType tj-can-be-word-member.Post
tj-can-be-word-member-single κs a x y s t p q = p ∙ sym q

pub tj-can-be-constant-single : SingleOfType tj-can-be-constant.Post
tj-can-be-constant-single κs a x y s t p q = p ∙ sym q

pub tj-can-be-variable-single : SingleOfType tj-can-be-variable.Post
tj-can-be-variable-single κs a x y s t p q = p ∙ sym q

pub tj-can-be-parameter-single : SingleOfType tj-can-be-parameter.Post
tj-can-be-parameter-single κs a x y s t p q = p ∙ sym q

pub tj-can-be-returned-single : SingleOfType tj-can-be-returned.Post
tj-can-be-returned-single κs a x y s t p q = p ∙ sym q

pub tj-get-element-type-single : SingleOfType tj-get-element-type.Post
tj-get-element-type-single κs a x y s t p q = p ∙ sym q

pub tj-get-pointee-type-single : SingleOfType tj-get-pointee-type.Post
tj-get-pointee-type-single κs a x y s t p q = p ∙ sym q

pub tj-get-viewee-type-single : SingleOfType tj-get-viewee-type.Post
tj-get-viewee-type-single κs a x y s t p q = p ∙ sym q

pub tj-fully-dereferenced-single : SingleOfType tj-fully-dereferenced.Post
tj-fully-dereferenced-single κs a x y s t p q = p ∙ sym q

pub tj-pointer-depth-single : SingleOfType tj-pointer-depth.Post
tj-pointer-depth-single κs a x y s t p q = p ∙ sym q

abbrev SingleOfPair : Out 2 of_pair.ps of_pair.r → Type 0
SingleOfPair Q = Single 2 of_pair.ps of_pair.r Q

pub tj-identical-single : SingleOfPair tj-identical.Post
tj-identical-single κs a x y s t p q = p ∙ sym q

pub tj-equals-single : SingleOfPair tj-equals.Post
tj-equals-single κs a x y s t p q = p ∙ sym q

pub tj-is-like-single : SingleOfPair tj-is-like.Post
tj-is-like-single κs a x y s t p q = p ∙ sym q

pub tj-can-be-declared-as-single : SingleOfPair tj-can-be-declared-as.Post
tj-can-be-declared-as-single κs a x y s t p q = p ∙ sym q

pub tj-can-be-concretization-of-single : SingleOfPair tj-can-be-concretization-of.Post
tj-can-be-concretization-of-single κs a x y s t p q = p ∙ sym q

pub tj-coerces-single : SingleOfPair tj-coerces.Post
tj-coerces-single κs a x y s t p q = p ∙ sym q

pub tj-can-autoderef-into-single : SingleOfPair tj-can-autoderef-into.Post
tj-can-autoderef-into-single κs a x y s t p q = p ∙ sym q

pub tj-can-subautoderef-into-single : SingleOfPair tj-can-subautoderef-into.Post
tj-can-subautoderef-into-single κs a x y s t p q = p ∙ sym q

pub tj-known-size-in-bytes-as-word-member-single : (κs : Lfts 2) (a : Dens κs with_size.ps) (x y : (res_t with_size.r κs).Denot) (s t : AtExit (ended_of 2 with_size.ps with_size.r) κs) →
    tj-known-size-in-bytes-as-word-member.Post κs a x s → tj-known-size-in-bytes-as-word-member.Post κs a y t → (x ≡ y) × (s.1.0.now ≡ t.1.0.now)
tj-known-size-in-bytes-as-word-member-single κs a x y s t p q = (p.0 ∙ sym q.0, p.1 ∙ sym q.1)

pub tj-stored-size-single : (κs : Lfts 2) (a : Dens κs with-width.ps) (x y : (res_t with-width.r κs).Denot) (s t : AtExit (ended_of 2 with-width.ps with-width.r) κs) →
    tj-stored-size.Post κs a x s → tj-stored-size.Post κs a y t → (x ≡ y) × (s.1.1.0.now ≡ t.1.1.0.now)
tj-stored-size-single κs a x y s t p q = (p.0 ∙ sym q.0, p.1 ∙ sym q.1)

abbrev SingleWithHalves : Out 3 with-halves.ps with-halves.r → Type 0
SingleWithHalves Q =
    (κs : Lfts 3) (a : Dens κs with-halves.ps) (x y : (res_t with-halves.r κs).Denot) (s t : AtExit (ended_of 3 with-halves.ps with-halves.r) κs) →
    Q κs a x s → Q κs a y t → (x ≡ y) × ((s.1.0.now ≡ t.1.0.now) × (s.1.1.0.now ≡ t.1.1.0.now))

pub tj-min-i128-single : SingleWithHalves tj-min-i128.Post
tj-min-i128-single κs a x y s t p q = (p.0 ∙ sym q.0, (p.1.0 ∙ sym q.1.0, p.1.1 ∙ sym q.1.1))

pub tj-max-u128-single : SingleWithHalves tj-max-u128.Post
tj-max-u128-single κs a x y s t p q = (p.0 ∙ sym q.0, (p.1.0 ∙ sym q.1.0, p.1.1 ∙ sym q.1.1))

pub tj-read-sheet-single : Single 1 of-sheet.ps of-sheet.r tj-read-sheet.Post
tj-read-sheet-single κs a x y s t p q = p ∙ sym q

pub tj-fix-type-for-flags-single : (κs : Lfts 2) (a : Dens κs with-buffer.ps) (x y : (res_t with-buffer.r κs).Denot) (s t : AtExit (ended_of 2 with-buffer.ps with-buffer.r) κs) →
    tj-fix-type-for-flags.Post κs a x s → tj-fix-type-for-flags.Post κs a y t → (x ≡ y) × (s.1.1.1.0.now ≡ t.1.1.1.0.now)
tj-fix-type-for-flags-single κs a x y s t p q = (p.0 ∙ sym q.0, p.1 ∙ sym q.1)

pub tj-for-string-literal-single : (κs : Lfts 1) (a : Dens κs of-literal.ps) (x y : (res_t of-literal.r κs).Denot) (s t : AtExit (ended_of 1 of-literal.ps of-literal.r) κs) →
    tj-for-string-literal.Post κs a x s → tj-for-string-literal.Post κs a y t → (x ≡ y) × (s.1.0.now ≡ t.1.0.now)
tj-for-string-literal-single κs a x y s t p q = (p.0 ∙ sym q.0, p.1 ∙ sym q.1)

pub tj-for-string-slice-single : (κs : Lfts 1) (a : Dens κs of-string-slice.ps) (x y : (res_t of-string-slice.r κs).Denot) (s t : AtExit (ended_of 1 of-string-slice.ps of-string-slice.r) κs) →
    tj-for-string-slice.Post κs a x s → tj-for-string-slice.Post κs a y t → (x ≡ y) × (s.0.now ≡ t.0.now)
tj-for-string-slice-single κs a x y s t p q = (p.0 ∙ sym q.0, p.1 ∙ sym q.1)

-- On lent symbols and tables, by the contracts taken whole: the answer, and what was lent as `&mut`.
module _ {M : Type 1} {𝓤 : Ura M} (𝓛 : Logic 𝓤) (mem : Memory → SProp 𝓤) (run : Routine → Fun 𝓤) where
  pub tj-update-symbol-single : (κs : Lfts 3) (a : Args tj-update-symbol.signature κs) → Walked 𝓤 ((tj-update-symbol.clauses 𝓛 mem run κs a).ensures tt)
      (λ x s y t. (x ≡ y) × (s.0.now ≡ t.0.now) × (s.1.0.now ≡ t.1.0.now))
  tj-update-symbol-single κs a = (_, (λ x s. refl, λ x y s t p q. (p.0 ∙ sym q.0, p.1 ∙ sym q.1, p.2 ∙ sym q.2)))

  pub tj-put-nothing-single : (κs : Lfts 2) (a : Args tj-put-nothing.signature κs) → Walked 𝓤 ((tj-put-nothing.clauses 𝓛 mem run κs a).ensures tt)
      (λ x s y t. (x ≡ y) × (s.0.now ≡ t.0.now) × (s.1.0.now ≡ t.1.0.now))
  tj-put-nothing-single κs a = (_, (λ x s. refl, λ x y s t p q. (p.0 ∙ sym q.0, p.1 ∙ sym q.1, p.2 ∙ sym q.2)))

  pub tj-put-type-single : (κs : Lfts 3) (a : Args tj-put-type.signature κs) → Walked 𝓤 ((tj-put-type.clauses 𝓛 mem run κs a).ensures tt)
      (λ x s y t. (x ≡ y) × (s.0.now ≡ t.0.now) × (s.1.0.now ≡ t.1.0.now))
  tj-put-type-single κs a = (_, (λ x s. refl, λ x y s t p q. (p.0 ∙ sym q.0, p.1 ∙ sym q.1, p.2 ∙ sym q.2)))

  pub tj-put-poison-single : (κs : Lfts 2) (a : Args tj-put-poison.signature κs) → Walked 𝓤 ((tj-put-poison.clauses 𝓛 mem run κs a).ensures tt)
      (λ x s y t. (x ≡ y) × (s.0.now ≡ t.0.now) × (s.1.0.now ≡ t.1.0.now))
  tj-put-poison-single κs a = (_, (λ x s. refl, λ x y s t p q. (p.0 ∙ sym q.0, p.1 ∙ sym q.1, p.2 ∙ sym q.2)))

  pub tj-forward-declare-type-single : (κs : Lfts 3) (a : Args tj-forward-declare-type.signature κs) → Walked 𝓤 ((tj-forward-declare-type.clauses 𝓛 mem run κs a).ensures tt)
      (λ x s y t. (x ≡ y) × (s.0.now ≡ t.0.now) × (s.1.0.now ≡ t.1.0.now))
  tj-forward-declare-type-single κs a = (_, (λ x s. refl, λ x y s t p q. (p.0 ∙ sym q.0, p.1 ∙ sym q.1, p.2 ∙ sym q.2)))

  pub tj-forward-declare-poison-single : (κs : Lfts 2) (a : Args tj-forward-declare-poison.signature κs) → Walked 𝓤 ((tj-forward-declare-poison.clauses 𝓛 mem run κs a).ensures tt)
      (λ x s y t. (x ≡ y) × (s.0.now ≡ t.0.now) × (s.1.0.now ≡ t.1.0.now))
  tj-forward-declare-poison-single κs a = (_, (λ x s. refl, λ x y s t p q. (p.0 ∙ sym q.0, p.1 ∙ sym q.1, p.2 ∙ sym q.2)))

  pub tj-get-symbol-single : (κs : Lfts 3) (a : Args tj-get-symbol.signature κs) → Walked 𝓤 ((tj-get-symbol.clauses 𝓛 mem run κs a).ensures tt)
      (λ x s y t. (x ≡ y) × (s.1.1.1.1.0.now ≡ t.1.1.1.1.0.now))
  tj-get-symbol-single κs a = (_, (λ x s. refl, λ x y s t p q. (p.0 ∙ sym q.0, p.1 ∙ sym q.1)))

  pub tj-autoderef-single : (κs : Lfts 5) (a : Args tj-autoderef.signature κs) → Walked 𝓤 ((tj-autoderef.clauses 𝓛 mem run κs a).ensures tt)
      (λ x s y t. (x ≡ y) × (s.1.1.1.1.1.1.1.0.now ≡ t.1.1.1.1.1.1.1.0.now) × (s.1.1.1.1.1.1.1.1.0.now ≡ t.1.1.1.1.1.1.1.1.0.now))
  tj-autoderef-single κs a = (_, (λ x s. refl, λ x y s t p q. (p.0 ∙ sym q.0, p.1.0 ∙ sym q.1.0, p.1.1 ∙ sym q.1.1)))

  pub tj-walk-single : (κs : Lfts 4) (a : Args tj-walk.signature κs) → Walked 𝓤 ((tj-walk.clauses 𝓛 mem run κs a).ensures tt)
      (λ x s y t. (x ≡ y) × (s.1.1.1.1.1.0.now ≡ t.1.1.1.1.1.0.now))
  tj-walk-single κs a = (_, (λ x s. refl, λ x y s t p q. (p.0 ∙ sym q.0, p.1 ∙ sym q.1)))
