-- One look at the outer kinds, and then one comparison at most, find a coercion.
-- Assumes nothing.
use mathlib.Core.Path.{◌≡◌, refl, sym, subst}
use mathlib.Core.Bool.{Bool, true, false, cond}
use mathlib.Core.List.{List}
use Prim.Native.Nat.{ℕ}
use lib.Dec.{eqb}
use borrow.Author.Tests.{eqb-true}
use Rattle.type_numbers.specs.Kind as kind
use Rattle.type_numbers.specs.CoercionNumber as of-coercion
use Rattle.type_layers.specs.Layers.{Layer, outer, inside}
use Rattle.relation_equals.specs.Equals.{identical, equals}
use Rattle.relation_coerces.specs.Coerces.{into_slice, into_endless_array, struct_into_view, coerces, address_into_slice_pointer, address_into_endless_array, address_coerces}
use Rattle.relation_coerces.specs.Coercion.{coercion}
use Rattle.relation_coerces.specs.AsCoded.{of_kinds, same_in_endless_array, found}

-- a fact of one number and of every other is one of each
split : (P : ℕ → Type 0) (k i : ℕ) → P i → (eqb k i ≡ false → P k) → P k
split P k i p q = by-test (eqb k i) refl
  where
    by-test : (t : Bool) → eqb k i ≡ t → P k
    by-test true e = subst P (sym (eqb-true k i e)) p
    by-test false e = q e

module _ (a b : List Layer) where
  -- of the outer kinds k and l, the merged answer is the one that is found
  abbrev Found : ℕ → ℕ → Type 0
  Found k l =
      cond
      (cond (into_slice k l) (equals (inside a) (inside b))
      (cond (into_endless_array k l (outer (inside b))) (equals (inside a) (inside (inside b)))
      (cond (struct_into_view k l) (identical a (inside b)) false)))
      of-coercion.as_value
      (cond
      (cond (address_into_slice_pointer k l) (equals (inside a) (inside b))
      (cond (address_into_endless_array k l (outer (inside b))) (equals (inside a) (inside (inside b))) false))
      of-coercion.by_address
      of-coercion.none)
      ≡ of_kinds k l a (inside a) (inside b)

  -- by whether b holds an EndlessArray
  held : (P : Type 0) → (eqb (outer (inside b)) kind.endless_array ≡ true → P) → (eqb (outer (inside b)) kind.endless_array ≡ false → P) → P
  held P p q = by-test (eqb (outer (inside b)) kind.endless_array) refl
    where
      by-test : (t : Bool) → eqb (outer (inside b)) kind.endless_array ≡ t → P
      by-test true e = p e
      by-test false e = q e

  -- of a kind that has a length, each right kind
  sized : (k l : ℕ) → Found k kind.slice → Found k kind.slice_pointer → Found k kind.pointer → Found k kind.view →
      (eqb l kind.slice ≡ false → eqb l kind.slice_pointer ≡ false → eqb l kind.pointer ≡ false → eqb l kind.view ≡ false → Found k l) →
      Found k l
  sized k l p q r s other =
      split (λ j. Found k j) l kind.slice p λ t.
      split (λ j. Found k j) l kind.slice_pointer q λ u.
      split (λ j. Found k j) l kind.pointer r λ v.
      split (λ j. Found k j) l kind.view s λ w.
      other t u v w

  each : (k l : ℕ) → Found k l
  unfolding same_in_endless_array
  each k l =
      split (λ i. Found i l) k kind.array
      (sized kind.array l refl refl (held _ (λ q. rw q) (λ q. rw q)) (held _ (λ q. rw q) (λ q. rw q)) (λ t u v w. rw (t, u, v, w))) λ e.
      split (λ i. Found i l) k kind.array_with_named_length
      (sized kind.array_with_named_length l refl refl (held _ (λ q. rw q) (λ q. rw q)) (held _ (λ q. rw q) (λ q. rw q)) (λ t u v w. rw (t, u, v, w))) λ f.
      split (λ i. Found i l) k kind.slice (split (λ j. Found kind.slice j) l kind.view (held _ (λ q. rw q) (λ q. rw q)) (λ w. rw w)) λ g.
      split (λ i. Found i l) k kind.slice_pointer (split (λ j. Found kind.slice_pointer j) l kind.pointer (held _ (λ q. rw q) (λ q. rw q)) (λ v. rw v)) λ h.
      split (λ i. Found i l) k kind.struct (split (λ j. Found kind.struct j) l kind.view refl (λ w. rw w)) λ i.
      rw (e, f, g, h, i)

-- What is found is the merged answer.
pub one-look : (a b : List Layer) → coercion a b ≡ found a b
unfolding coerces address_coerces coercion found
one-look a b = each a b (outer a) (outer b)
