-- "Relations": like, declared as and concretization, on runs of layers. A left and a right type; their outer layers are x and y, of the kinds k and l.
use Rattle.std.specs.Prelude.{Bool, true, cond, not, ◌&&◌, ◌||◌, List, [], ◌∷◌, ℕ, eqb}
use Rattle.type_numbers.specs.Kind as kind
use Rattle.type_layers.specs.Layers.{Layer, outer, inside, is_slice, holds_inner}
use Rattle.relation_equals.specs.Equals.{identical}

-- "like (a, b): a is of kind 14, 15 or 18 and b is Arraylike: their elements are like. Otherwise identical."
abbrev pub array_meets_arraylike : ℕ → ℕ → Bool
array_meets_arraylike k l =
    (eqb k kind.array || eqb k kind.array_with_named_length || eqb k kind.endless_array) && eqb l kind.arraylike

unfoldable pub like : List Layer → List Layer → Bool
like [] b = identical [] b
like (x ∷ a) [] = identical (x ∷ a) []
like (x ∷ a) (y ∷ b) = cond (array_meets_arraylike x.kind y.kind) (like a b) (identical (x ∷ a) (y ∷ b))

-- "declared as: kind 14, 15 or 16 against Arraylike, and SlicePointer against Pointer to Arraylike: elements identical.
-- Otherwise identical."
abbrev pub declares_arraylike : ℕ → ℕ → Bool
declares_arraylike k l = (eqb k kind.array || eqb k kind.array_with_named_length || eqb k kind.slice) && eqb l kind.arraylike

-- m is the outer kind of what the right type holds.
abbrev pub slice_pointer_meets_pointer : ℕ → ℕ → ℕ → Bool
slice_pointer_meets_pointer k l m = eqb k kind.slice_pointer && eqb l kind.pointer && eqb m kind.arraylike

unfoldable pub declared : List Layer → List Layer → Bool
declared a b =
    cond (declares_arraylike (outer a) (outer b)) (identical (inside a) (inside b))
    (cond (slice_pointer_meets_pointer (outer a) (outer b) (outer (inside b))) (identical (inside a) (inside (inside b)))
    (identical a b))

-- "concretization: same outer kind among 14-19, 23, 24 (with equal length or name for 14, 15): ask again inside."
abbrev pub same_holder : Layer → Layer → Bool
same_holder x y =
    holds_inner x.kind
    && eqb x.kind y.kind
    && (not (eqb x.kind kind.array) || eqb x.number y.number)
    && (not (eqb x.kind kind.array_with_named_length) || eqb x.name y.name)

-- "Kind 14, 15, 16 or 18 against Arraylike, SlicePointer against Arraylike or Pointer to Arraylike: elements like."
abbrev pub slice_meets_arraylike : ℕ → ℕ → Bool
slice_meets_arraylike k l = is_slice k && eqb l kind.arraylike

abbrev pub meets_arraylike : ℕ → ℕ → Bool
meets_arraylike k l = array_meets_arraylike k l || slice_meets_arraylike k l

-- "Struct or Word against an unresolved type with no name or the same name: yes."
abbrev pub resolves : Layer → Layer → Bool
resolves x y =
    (eqb x.kind kind.struct || eqb x.kind kind.word)
    && eqb y.kind kind.unresolved_struct_or_word
    && (eqb y.number 0 || eqb x.name y.name)

-- "Otherwise identical."
unfoldable pub concretization : List Layer → List Layer → Bool
concretization [] b = identical [] b
concretization (x ∷ a) [] = identical (x ∷ a) []
concretization (x ∷ a) (y ∷ b) =
    cond (same_holder x y) (concretization a b)
    (cond (meets_arraylike x.kind y.kind) (like a b)
    (cond (slice_pointer_meets_pointer x.kind y.kind (outer b)) (like a (inside b))
    (cond (resolves x y) true
    (identical (x ∷ a) (y ∷ b)))))
