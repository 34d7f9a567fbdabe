-- What follows from the definitions of the relations alone.
-- Assumes nothing.
use mathlib.Core.Path.{◌≡◌, refl, sym, ◌∙◌}
use mathlib.Core.Bool.{Bool, true, false, cond, not, ◌&&◌, ◌||◌, and-false, false≢true}
use mathlib.Core.List.{List, [], ◌∷◌}
use Prim.Native.Nat.{ℕ}
use lib.Dec.{eqb}
use borrow.Author.Tests.{eqb-true}
use Rattle.type_numbers.specs.Kind as kind
use Rattle.type_layers.specs.Layers.{Layer, outer, inside, is_slice, holds_inner}
use Rattle.type_layers.proofs.Decide.{both}
use Rattle.relation_equals.specs.Equals.{identical}
use Rattle.relation_equals.proofs.Theorems.{identical-equal, identical-reflexive}
use Rattle.relation_declared.specs.Declared.{array_meets_arraylike, like, declares_arraylike, slice_pointer_meets_pointer, declared, same_holder, meets_arraylike, resolves, concretization}

-- A kind isn't both one that a test holds of and another.
other : (test : ℕ → Bool) (k l : ℕ) → test l ≡ false → (test k && eqb k l) ≡ false
other test k l e = by_kind (eqb k l) refl
  where
    by_kind : (u : Bool) → eqb k l ≡ u → (test k && u) ≡ false
    by_kind true p = rw (eqb-true k l p, e)
    by_kind false p = and-false (test k)

declares-no-arraylike : (k : ℕ) → declares_arraylike k k ≡ false
declares-no-arraylike k = other (λ (j : ℕ). eqb j kind.array || eqb j kind.array_with_named_length || eqb j kind.slice) k kind.arraylike refl

meets-no-pointer : (k m : ℕ) → slice_pointer_meets_pointer k k m ≡ false
meets-no-pointer k m = rw (other (λ (j : ℕ). eqb j kind.slice_pointer) k kind.pointer refl)

meets-no-array : (k : ℕ) → array_meets_arraylike k k ≡ false
meets-no-array k =
    other (λ (j : ℕ). eqb j kind.array || eqb j kind.array_with_named_length || eqb j kind.endless_array) k kind.arraylike refl

meets-no-arraylike : (k : ℕ) → meets_arraylike k k ≡ false
meets-no-arraylike k = rw (meets-no-array k, other is_slice k kind.arraylike refl)

resolves-not : (x : Layer) → resolves x x ≡ false
resolves-not x = rw (other (λ (j : ℕ). eqb j kind.struct || eqb j kind.word) x.kind kind.unresolved_struct_or_word refl)

-- *Like*: where it isn't a kind 14, 15 or 18 against Arraylike, it is identical.
pub like-otherwise : (a b : List Layer) → array_meets_arraylike (outer a) (outer b) ≡ false → like a b ≡ identical a b
unfolding like outer
like-otherwise [] b e = refl
like-otherwise (x ∷ a) [] e = refl
like-otherwise (x ∷ a) (y ∷ b) e = rw e

-- *Declared as*: where it is neither of the listed pairs, it is identical.
pub declared-otherwise : (a b : List Layer) → declares_arraylike (outer a) (outer b) ≡ false →
    slice_pointer_meets_pointer (outer a) (outer b) (outer (inside b)) ≡ false → declared a b ≡ identical a b
unfolding declared
declared-otherwise a b e f = rw (e, f)

-- *Concretization*: where it is none of the listed pairs, it is identical.
pub concretization-otherwise : (x y : Layer) (a b : List Layer) → same_holder x y ≡ false → meets_arraylike x.kind y.kind ≡ false →
    slice_pointer_meets_pointer x.kind y.kind (outer b) ≡ false → resolves x y ≡ false →
    concretization (x ∷ a) (y ∷ b) ≡ identical (x ∷ a) (y ∷ b)
unfolding concretization
concretization-otherwise x y a b e f g h = rw (e, f, g, h)

like-reflexive : (a : List Layer) → like a a ≡ true
like-reflexive a = like-otherwise a a (meets-no-array (outer a)) ∙ identical-reflexive a

declared-reflexive : (a : List Layer) → declared a a ≡ true
declared-reflexive a =
    declared-otherwise a a (declares-no-arraylike (outer a)) (meets-no-pointer (outer a) (outer (inside a))) ∙ identical-reflexive a

concretization-reflexive : (a : List Layer) → concretization a a ≡ true
unfolding concretization identical
concretization-reflexive [] = refl
concretization-reflexive (x ∷ a) = by-layer (same_holder x x) (concretization-reflexive a) refl
  where
    by-layer : (u : Bool) → concretization a a ≡ true → same_holder x x ≡ u → concretization (x ∷ a) (x ∷ a) ≡ true
    by-layer true i e = rw e i
    by-layer false i e =
        concretization-otherwise x x a a e (meets-no-arraylike x.kind) (meets-no-pointer x.kind (outer a)) (resolves-not x)
        ∙ identical-reflexive (x ∷ a)

-- Identical types are like each other, declared as each other, and concretizations of each other.
module _ (a b : List Layer) (e : identical a b ≡ true) where
  pub identical-like : like a b ≡ true
  identical-like = rw (identical-equal a b e) (like-reflexive b)

  pub identical-declared : declared a b ≡ true
  identical-declared = rw (identical-equal a b e) (declared-reflexive b)

  pub identical-concretization : concretization a b ≡ true
  identical-concretization = rw (identical-equal a b e) (concretization-reflexive b)

same_kind : (x y : Layer) → same_holder x y ≡ true → x.kind ≡ y.kind
same_kind x y e =
    let length = not (eqb x.kind kind.array) || eqb x.number y.number in
    let name = not (eqb x.kind kind.array_with_named_length) || eqb x.name y.name in
    let held = holds_inner x.kind && eqb x.kind y.kind in
    eqb-true x.kind y.kind (both (holds_inner x.kind) (eqb x.kind y.kind) (both held length (both (held && length) name e).0).0).1

-- A type that is like another is a concretization of it.
pub like-concretization : (a b : List Layer) → like a b ≡ true → concretization a b ≡ true
unfolding like concretization
like-concretization [] b e = e
like-concretization (x ∷ a) [] e = e
like-concretization (x ∷ a) (y ∷ b) e = by-kinds (array_meets_arraylike x.kind y.kind) e refl
  where
    by-kinds : (u : Bool) → cond u (like a b) (identical (x ∷ a) (y ∷ b)) ≡ true → array_meets_arraylike x.kind y.kind ≡ u →
        concretization (x ∷ a) (y ∷ b) ≡ true
    by-kinds true i p = by-holder (same_holder x y) refl
      where
        by-holder : (u : Bool) → same_holder x y ≡ u → concretization (x ∷ a) (y ∷ b) ≡ true
        by-holder true q = absurd (false≢true (sym (meets-no-array y.kind) ∙ (rw (same_kind x y q) at p)))
        by-holder false q = rw (q, p) i
    by-kinds false i p = identical-concretization (x ∷ a) (y ∷ b) i
