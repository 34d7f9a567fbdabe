-- "Relations", on runs of layers: coercions and dereferences. A left and a right type, of the outer kinds k and l; m is
-- the outer kind of what the right type holds, and d is what the left type holds.
use Rattle.std.specs.Prelude.{Bool, false, cond, ◌&&◌, ◌||◌, List, [], ◌∷◌, ℕ, eqb}
use Rattle.type_numbers.specs.Kind as kind
use Rattle.type_layers.specs.Layers.{Layer, outer, inside, is_reference}
use Rattle.relation_equals.specs.Equals.{identical, equals}

-- "kind 14 or 15"
abbrev pub has_length : ℕ → Bool
has_length k = eqb k kind.array || eqb k kind.array_with_named_length

-- "coerces: kind 14 or 15 into Slice ...;"
abbrev pub into_slice : ℕ → ℕ → Bool
into_slice k l = has_length k && eqb l kind.slice

-- "kind 14 or 15 into ... View of EndlessArray; Slice into View of EndlessArray; SlicePointer into Pointer to EndlessArray;"
abbrev pub into_endless_array : ℕ → ℕ → ℕ → Bool
into_endless_array k l m =
    (has_length k || eqb k kind.slice) && eqb l kind.view && eqb m kind.endless_array
    || eqb k kind.slice_pointer && eqb l kind.pointer && eqb m kind.endless_array

-- "Struct into View of the identical Struct."
abbrev pub struct_into_view : ℕ → ℕ → Bool
struct_into_view k l = eqb k kind.struct && eqb l kind.view

-- "each with equal elements." "No other pair."
unfoldable pub coerces : List Layer → List Layer → Bool
coerces a b =
    cond (into_slice (outer a) (outer b)) (equals (inside a) (inside b))
    (cond (into_endless_array (outer a) (outer b) (outer (inside b))) (equals (inside a) (inside (inside b)))
    (cond (struct_into_view (outer a) (outer b)) (identical a (inside b))
    false))

-- "address coerces: kind 14 or 15 into SlicePointer or Pointer to EndlessArray, with equal elements."
abbrev pub address_into_slice_pointer : ℕ → ℕ → Bool
address_into_slice_pointer k l = has_length k && eqb l kind.slice_pointer

abbrev pub address_into_endless_array : ℕ → ℕ → ℕ → Bool
address_into_endless_array k l m = has_length k && eqb l kind.pointer && eqb m kind.endless_array

unfoldable pub address_coerces : List Layer → List Layer → Bool
address_coerces a b =
    cond (address_into_slice_pointer (outer a) (outer b)) (equals (inside a) (inside b))
    (cond (address_into_endless_array (outer a) (outer b) (outer (inside b))) (equals (inside a) (inside (inside b)))
    false)

-- "sub-autoderefs: View and Pointer only, the same lines without "a equals b" and without address coercion": of a View
-- the viewee and of a Pointer the pointee of b, which is of the same kind. It stands first, as *autoderefs* asks it.
unfoldable pub subautoderefs : List Layer → List Layer → Bool
subautoderefs [] b = false
subautoderefs (x ∷ d) b =
    is_reference x.kind
    && (equals d b || subautoderefs d b || eqb (outer b) x.kind && subautoderefs d (inside b))

-- "autoderefs (a, b): kinds 14-18 and 20: equals or coerces."
abbrev pub is_array_or_struct : ℕ → Bool
is_array_or_struct k =
    eqb k kind.array
    || eqb k kind.array_with_named_length
    || eqb k kind.slice
    || eqb k kind.slice_pointer
    || eqb k kind.endless_array
    || eqb k kind.struct

-- "View of d: a equals b, or d equals b, or d sub-autoderefs into b, or b is a View and d sub-autoderefs into its viewee."
unfoldable pub view_autoderefs : List Layer → List Layer → List Layer → Bool
view_autoderefs a d b =
    equals a b || equals d b || subautoderefs d b || eqb (outer b) kind.view && subautoderefs d (inside b)

-- "Pointer to d: the same with pointee, and also d address coerces into b."
unfoldable pub pointer_autoderefs : List Layer → List Layer → List Layer → Bool
pointer_autoderefs a d b =
    equals a b
    || equals d b
    || subautoderefs d b
    || eqb (outer b) kind.pointer && subautoderefs d (inside b)
    || address_coerces d b

-- "All other kinds: no, even against themselves."
unfoldable pub autoderefs : List Layer → List Layer → Bool
autoderefs a b =
    cond (is_array_or_struct (outer a)) (equals a b || coerces a b)
    (cond (eqb (outer a) kind.view) (view_autoderefs a (inside a) b)
    (cond (eqb (outer a) kind.pointer) (pointer_autoderefs a (inside a) b)
    false))
