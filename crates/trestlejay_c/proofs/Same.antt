-- Each export has the contract of the function of `trestlejay` that it calls: the same parameters, the same result, the same
-- clauses. So each theorem on a contract of the C face (`Single`, `Demanded`) is one on the export of that name.
-- Assumes nothing.
use mathlib.Core.Path.{◌≡◌, refl}
use seplogic.Ra.Ura.{Ura}
use base.Logic.{SProp}
use prog.Memory.{Memory}
use prog.Routine.{Routine}
use types.Logic.{Logic}
use contract.Monad.{Fun}
use Rattle.trestlejay.specs.contracts as face
use Rattle.trestlejay_c.specs.contracts as exported

module _ {M : Type 1} {𝓤 : Ura M} (𝓛 : Logic 𝓤) (mem : Memory → SProp 𝓤) (run : Routine → Fun 𝓤) where
  pub tj-fix-type-for-flags-same : exported.tj_fix_type_for_flags.spec 𝓛 mem run ≡ face.tj_fix_type_for_flags.spec 𝓛 mem run
  tj-fix-type-for-flags-same = refl

  pub tj-pointer-depth-same : exported.tj_pointer_depth.spec 𝓛 mem run ≡ face.tj_pointer_depth.spec 𝓛 mem run
  tj-pointer-depth-same = refl

  pub tj-known-size-in-bytes-as-word-member-same : exported.tj_known_size_in_bytes_as_word_member.spec 𝓛 mem run ≡ face.tj_known_size_in_bytes_as_word_member.spec 𝓛 mem run
  tj-known-size-in-bytes-as-word-member-same = refl

  pub tj-stored-size-same : exported.tj_stored_size.spec 𝓛 mem run ≡ face.tj_stored_size.spec 𝓛 mem run
  tj-stored-size-same = refl

  pub tj-min-i128-same : exported.tj_min_i128.spec 𝓛 mem run ≡ face.tj_min_i128.spec 𝓛 mem run
  tj-min-i128-same = refl

  pub tj-max-u128-same : exported.tj_max_u128.spec 𝓛 mem run ≡ face.tj_max_u128.spec 𝓛 mem run
  tj-max-u128-same = refl

  pub tj-get-element-type-same : exported.tj_get_element_type.spec 𝓛 mem run ≡ face.tj_get_element_type.spec 𝓛 mem run
  tj-get-element-type-same = refl

  pub tj-get-pointee-type-same : exported.tj_get_pointee_type.spec 𝓛 mem run ≡ face.tj_get_pointee_type.spec 𝓛 mem run
  tj-get-pointee-type-same = refl

  pub tj-get-viewee-type-same : exported.tj_get_viewee_type.spec 𝓛 mem run ≡ face.tj_get_viewee_type.spec 𝓛 mem run
  tj-get-viewee-type-same = refl

  pub tj-fully-dereferenced-same : exported.tj_fully_dereferenced.spec 𝓛 mem run ≡ face.tj_fully_dereferenced.spec 𝓛 mem run
  tj-fully-dereferenced-same = refl

  pub tj-autoderef-same : exported.tj_autoderef.spec 𝓛 mem run ≡ face.tj_autoderef.spec 𝓛 mem run
  tj-autoderef-same = refl

  pub tj-walk-same : exported.tj_walk.spec 𝓛 mem run ≡ face.tj_walk.spec 𝓛 mem run
  tj-walk-same = refl

  pub tj-check-same : exported.tj_check.spec 𝓛 mem run ≡ face.tj_check.spec 𝓛 mem run
  tj-check-same = refl

  pub tj-is-wellformed-same : exported.tj_is_wellformed.spec 𝓛 mem run ≡ face.tj_is_wellformed.spec 𝓛 mem run
  tj-is-wellformed-same = refl

  pub tj-is-void-same : exported.tj_is_void.spec 𝓛 mem run ≡ face.tj_is_void.spec 𝓛 mem run
  tj-is-void-same = refl

  pub tj-is-integral-same : exported.tj_is_integral.spec 𝓛 mem run ≡ face.tj_is_integral.spec 𝓛 mem run
  tj-is-integral-same = refl

  pub tj-is-signed-same : exported.tj_is_signed.spec 𝓛 mem run ≡ face.tj_is_signed.spec 𝓛 mem run
  tj-is-signed-same = refl

  pub tj-is-bitfield-same : exported.tj_is_bitfield.spec 𝓛 mem run ≡ face.tj_is_bitfield.spec 𝓛 mem run
  tj-is-bitfield-same = refl

  pub tj-is-slice-pointer-same : exported.tj_is_slice_pointer.spec 𝓛 mem run ≡ face.tj_is_slice_pointer.spec 𝓛 mem run
  tj-is-slice-pointer-same = refl

  pub tj-update-symbol-same : exported.tj_update_symbol.spec 𝓛 mem run ≡ face.tj_update_symbol.spec 𝓛 mem run
  tj-update-symbol-same = refl

  pub tj-put-nothing-same : exported.tj_put_nothing.spec 𝓛 mem run ≡ face.tj_put_nothing.spec 𝓛 mem run
  tj-put-nothing-same = refl

  pub tj-put-type-same : exported.tj_put_type.spec 𝓛 mem run ≡ face.tj_put_type.spec 𝓛 mem run
  tj-put-type-same = refl

  pub tj-put-poison-same : exported.tj_put_poison.spec 𝓛 mem run ≡ face.tj_put_poison.spec 𝓛 mem run
  tj-put-poison-same = refl

  pub tj-forward-declare-type-same : exported.tj_forward_declare_type.spec 𝓛 mem run ≡ face.tj_forward_declare_type.spec 𝓛 mem run
  tj-forward-declare-type-same = refl

  pub tj-forward-declare-poison-same : exported.tj_forward_declare_poison.spec 𝓛 mem run ≡ face.tj_forward_declare_poison.spec 𝓛 mem run
  tj-forward-declare-poison-same = refl

  pub tj-get-symbol-same : exported.tj_get_symbol.spec 𝓛 mem run ≡ face.tj_get_symbol.spec 𝓛 mem run
  tj-get-symbol-same = refl

  pub tj-identical-same : exported.tj_identical.spec 𝓛 mem run ≡ face.tj_identical.spec 𝓛 mem run
  tj-identical-same = refl

  pub tj-equals-same : exported.tj_equals.spec 𝓛 mem run ≡ face.tj_equals.spec 𝓛 mem run
  tj-equals-same = refl

  pub tj-is-like-same : exported.tj_is_like.spec 𝓛 mem run ≡ face.tj_is_like.spec 𝓛 mem run
  tj-is-like-same = refl

  pub tj-can-be-declared-as-same : exported.tj_can_be_declared_as.spec 𝓛 mem run ≡ face.tj_can_be_declared_as.spec 𝓛 mem run
  tj-can-be-declared-as-same = refl

  pub tj-can-be-concretization-of-same : exported.tj_can_be_concretization_of.spec 𝓛 mem run ≡ face.tj_can_be_concretization_of.spec 𝓛 mem run
  tj-can-be-concretization-of-same = refl

  pub tj-coerces-same : exported.tj_coerces.spec 𝓛 mem run ≡ face.tj_coerces.spec 𝓛 mem run
  tj-coerces-same = refl

  pub tj-can-autoderef-into-same : exported.tj_can_autoderef_into.spec 𝓛 mem run ≡ face.tj_can_autoderef_into.spec 𝓛 mem run
  tj-can-autoderef-into-same = refl

  pub tj-can-subautoderef-into-same : exported.tj_can_subautoderef_into.spec 𝓛 mem run ≡ face.tj_can_subautoderef_into.spec 𝓛 mem run
  tj-can-subautoderef-into-same = refl

  pub tj-can-be-sized-same : exported.tj_can_be_sized.spec 𝓛 mem run ≡ face.tj_can_be_sized.spec 𝓛 mem run
  tj-can-be-sized-same = refl

  pub tj-can-be-struct-member-same : exported.tj_can_be_struct_member.spec 𝓛 mem run ≡ face.tj_can_be_struct_member.spec 𝓛 mem run
  tj-can-be-struct-member-same = refl

  pub tj-can-be-word-member-same : exported.tj_can_be_word_member.spec 𝓛 mem run ≡ face.tj_can_be_word_member.spec 𝓛 mem run
  tj-can-be-word-member-same = refl

  pub tj-can-be-constant-same : exported.tj_can_be_constant.spec 𝓛 mem run ≡ face.tj_can_be_constant.spec 𝓛 mem run
  tj-can-be-constant-same = refl

  pub tj-can-be-variable-same : exported.tj_can_be_variable.spec 𝓛 mem run ≡ face.tj_can_be_variable.spec 𝓛 mem run
  tj-can-be-variable-same = refl

  pub tj-can-be-parameter-same : exported.tj_can_be_parameter.spec 𝓛 mem run ≡ face.tj_can_be_parameter.spec 𝓛 mem run
  tj-can-be-parameter-same = refl

  pub tj-can-be-returned-same : exported.tj_can_be_returned.spec 𝓛 mem run ≡ face.tj_can_be_returned.spec 𝓛 mem run
  tj-can-be-returned-same = refl

  pub tj-read-sheet-same : exported.tj_read_sheet.spec 𝓛 mem run ≡ face.tj_read_sheet.spec 𝓛 mem run
  tj-read-sheet-same = refl

  pub tj-for-string-literal-same : exported.tj_for_string_literal.spec 𝓛 mem run ≡ face.tj_for_string_literal.spec 𝓛 mem run
  tj-for-string-literal-same = refl

  pub tj-for-string-slice-same : exported.tj_for_string_slice.spec 𝓛 mem run ≡ face.tj_for_string_slice.spec 𝓛 mem run
  tj-for-string-slice-same = refl
