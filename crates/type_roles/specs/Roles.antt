-- "Roles: the kinds refused are those the seven functions from `can_be_sized` to `can_be_returned` list".
use Rattle.std.specs.Prelude.{Bool, true, not, ◌&&◌, ◌||◌, List, ℕ, eqb}
use Rattle.type_numbers.specs.Kind as kind
use Rattle.type_layers.specs.Layers.{Layer, layers, outer}
use Rattle.type_layers.specs.Answer.{Answer, next, truth, is_given}
use Rattle.type_checks.specs.Check.{check_of}
use Rattle.type_size_and_depth.specs.Known.{known_size}
use Rattle.type_wellformed.specs.WellFormed.{well_formed}
use Rattle.type_roles.specs.declared.role.Role.{Role}
use Rattle.type_roles.specs.declared.role.Role.TheVariants as role

-- The kinds that each of them lists; `can_be_word_member` asks `can_be_struct_member`, which lists those of `can_be_sized`.
abbrev pub is_unsized : ℕ → Bool
is_unsized k =
    eqb k kind.void
    || eqb k kind.slice
    || eqb k kind.slice_pointer
    || eqb k kind.endless_array
    || eqb k kind.arraylike
    || eqb k kind.view

abbrev pub refuses : Role → ℕ → Bool
refuses role.Sized k = is_unsized k
refuses role.StructMember k = is_unsized k
refuses role.WordMember k = is_unsized k
refuses role.Constant k =
    eqb k kind.void || eqb k kind.slice || eqb k kind.slice_pointer || eqb k kind.endless_array || eqb k kind.arraylike
refuses role.Variable k =
    eqb k kind.void || eqb k kind.slice_pointer || eqb k kind.endless_array || eqb k kind.arraylike || eqb k kind.view
refuses role.Parameter k =
    eqb k kind.void
    || eqb k kind.array
    || eqb k kind.array_with_named_length
    || eqb k kind.endless_array
    || eqb k kind.arraylike
    || eqb k kind.struct
refuses role.Returned k =
    eqb k kind.array
    || eqb k kind.array_with_named_length
    || eqb k kind.slice
    || eqb k kind.slice_pointer
    || eqb k kind.endless_array
    || eqb k kind.arraylike
    || eqb k kind.struct
    || eqb k kind.unresolved_struct_or_word
    || eqb k kind.view

-- "all but sized also need the type well formed"; "a word member needs" a known size
abbrev pub needs : Role → Bool → Bool → Bool
needs role.Sized formed known = true
needs role.StructMember formed known = formed
needs role.WordMember formed known = formed && known
needs role.Constant formed known = formed
needs role.Variable formed known = formed
needs role.Parameter formed known = formed
needs role.Returned formed known = formed

unfoldable pub can_be : Role → List Layer → Bool
can_be r a = not (refuses r (outer a)) && needs r (well_formed a) (is_given (known_size a))

unfoldable pub role_answer : Role → List ℕ → Answer ℕ
role_answer r ws = next (check_of ws) (truth (can_be r (layers ws)))
