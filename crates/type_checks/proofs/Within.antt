-- What a good layer is, by its kind.
-- Assumes nothing.
use mathlib.Core.Path.{◌≡◌, refl, sym, ap, ◌∙◌}
use mathlib.Core.Bool.{Bool, true, false, cond, not, ◌&&◌, ◌||◌, and-true, and-false, true≢false, false≢true}
use Prim.Native.Nat.{ℕ, zero, suc, ◌-◌, ◌^◌, ◌≤◌, ◌<◌}
use native.Mathlib.Omega.{arith}
use lib.Dec.{eqb, leb, ltb}
use borrow.Author.Tests.{le-ltb, lt-leb, lt-ltb, ltb-true, ltb-false, ne_eqb, eqb-true, eqb-false}
use Rattle.type_layers.specs.Layers.{layer, holds_inner}
use Rattle.type_checks.specs.Check.{good_layer}

-- two kinds of which a test says different things
apart : (test : ℕ → Bool) (k l : ℕ) (u : Bool) → test k ≡ u → test l ≡ not u → eqb k l ≡ false
apart test k l u e f = by-test (eqb k l) refl
  where
    differs : (v : Bool) → v ≡ not v → ⊥
    differs true g = true≢false g
    differs false g = false≢true g

    by-test : (v : Bool) → eqb k l ≡ v → v ≡ false
    by-test true g = absurd (differs u (sym e ∙ ap test (eqb-true k l g) ∙ f))
    by-test false g = refl

module _ (k n m : ℕ) where
  -- a layer that holds an inner type
  pub of_array : k ≡ 14 → eqb n 0 ≡ (holds_inner k && good_layer (layer k n m))
  unfolding good_layer
  of_array e = rw e (sym (and-true (eqb n 0)))

  pub of_named : k ≡ 15 → (leb n (2 ^ 32 - 1) && eqb m 0) ≡ (holds_inner k && good_layer (layer k n m))
  unfolding good_layer
  of_named e = rw e

  pub of_holder : (f : Bool) → f ≡ holds_inner k → (k ≡ 14 → ⊥) → (k ≡ 15 → ⊥) →
      (eqb n 0 && eqb m 0 && f) ≡ (holds_inner k && good_layer (layer k n m))
  unfolding good_layer
  of_holder f e a b = rw e (by-holding (holds_inner k) refl)
    where
      known : holds_inner k ≡ true → ltb k 25 ≡ true
      known h = by-test (ltb k 25) refl
        where
          by-test : (v : Bool) → ltb k 25 ≡ v → v ≡ true
          by-test true g = refl
          by-test false g =
              let l = ltb-false k 25 g in
              let no : holds_inner k ≡ false = rw (ne_eqb k 14 (λ z. omega arith), ne_eqb k 15 (λ z. omega arith), ne_eqb k 16 (λ z. omega arith), ne_eqb k 17 (λ z. omega arith), ne_eqb k 18 (λ z. omega arith), ne_eqb k 19 (λ z. omega arith), ne_eqb k 23 (λ z. omega arith), ne_eqb k 24 (λ z. omega arith)) in
              absurd (true≢false (sym h ∙ no))

      Told : Bool → Type 0
      Told h = (eqb n 0 && eqb m 0 && h) ≡ (h && good_layer (layer k n m))

      all-three : (u v : Bool) → (u && v && true) ≡ (u && v)
      all-three true true = refl
      all-three true false = refl
      all-three false v = refl

      none-of : (u v : Bool) → (u && v && false) ≡ false
      none-of u v = and-false (u && v)

      by-holding : (h : Bool) → holds_inner k ≡ h → Told h
      by-holding true h =
          rw (known h, ne_eqb k 14 a, ne_eqb k 15 b, apart holds_inner k 20 true h refl, apart holds_inner k 21 true h refl, apart holds_inner k 22 true h refl)
          (all-three (eqb n 0) (eqb m 0))
      by-holding false h = none-of (eqb n 0) (eqb m 0)

  -- one without a name and a number
  pub of_common : (eqb n 0 && eqb m 0) ≡ true → (f : Bool) → f ≡ holds_inner k → f ≡ (holds_inner k && good_layer (layer k n m))
  of_common z f e = by-kind (eqb k 14) (eqb k 15) refl refl
    where
      zeros : (u v w : Bool) → (u && v) ≡ true → w ≡ (u && v && w)
      zeros true true w p = refl
      zeros true false w p = absurd (true≢false (sym p))
      zeros false v w p = absurd (true≢false (sym p))

      small-name : (j : ℕ) → (eqb j 0 && eqb m 0) ≡ true → (leb j (2 ^ 32 - 1) && eqb m 0) ≡ true
      small-name j p = rw (eqb-true j 0 (first (eqb j 0) (eqb m 0) p)) (second (eqb j 0) (eqb m 0) p)
        where
          first : (u v : Bool) → (u && v) ≡ true → u ≡ true
          first true v q = refl
          first false v q = absurd (true≢false (sym q))

          second : (u v : Bool) → (u && v) ≡ true → v ≡ true
          second true v q = q
          second false v q = absurd (true≢false (sym q))

      name-zero : (u v : Bool) → (u && v) ≡ true → u ≡ true
      name-zero true v q = refl
      name-zero false v q = absurd (true≢false (sym q))

      by-kind : (x y : Bool) → eqb k 14 ≡ x → eqb k 15 ≡ y → f ≡ (holds_inner k && good_layer (layer k n m))
      by-kind true y p q = rw (e, ← of_array (eqb-true k 14 p), name-zero (eqb n 0) (eqb m 0) z) (ap holds_inner (eqb-true k 14 p))
      by-kind false true p q = rw (e, ← of_named (eqb-true k 15 q), small-name n z) (ap holds_inner (eqb-true k 15 q))
      by-kind false false p q = zeros (eqb n 0) (eqb m 0) f z ∙ of_holder f e (eqb-false k 14 p) (eqb-false k 15 q)

  -- another one with a name or a number
  pub of-other : (eqb n 0 && eqb m 0) ≡ false → (k ≡ 14 → ⊥) → (k ≡ 15 → ⊥) → false ≡ (holds_inner k && good_layer (layer k n m))
  of-other z a b = nothing (eqb n 0) (eqb m 0) z ∙ of_holder (holds_inner k) refl a b
    where
      nothing : (u v : Bool) → (u && v) ≡ false → false ≡ (u && v && holds_inner k)
      nothing true true q = absurd (true≢false q)
      nothing true false q = refl
      nothing false v q = refl

  -- a leaf
  pub of_struct : k ≡ 20 → (leb n (2 ^ 32 - 1) && eqb m 0) ≡ (not (holds_inner k) && good_layer (layer k n m))
  unfolding good_layer
  of_struct e = rw e

  pub of_word : k ≡ 21 → leb n (2 ^ 32 - 1) ≡ (not (holds_inner k) && good_layer (layer k n m))
  unfolding good_layer
  of_word e = rw e (sym (and-true (leb n (2 ^ 32 - 1))))

  pub of-unresolved : k ≡ 22 → (eqb n 0 && eqb m 0 || leb n (2 ^ 32 - 1) && eqb m 1) ≡ (not (holds_inner k) && good_layer (layer k n m))
  unfolding good_layer
  of-unresolved e = rw (e, at_most_one m) (by-tests (eqb m 0) (eqb m 1) (eqb n 0) (leb n (2 ^ 32 - 1)) (exclusive (eqb m 1) refl))
    where
      at_most_one : (j : ℕ) → leb j 1 ≡ (eqb j 1 || eqb j 0)
      at_most_one zero = refl
      at_most_one (suc zero) = refl
      at_most_one (suc (suc j)) =
          rw (ne_eqb (suc (suc j)) 1 (λ e. omega arith), ne_eqb (suc (suc j)) 0 (λ e. omega arith), lt-leb (suc (suc j)) 1 (omega arith))

      exclusive : (v : Bool) → eqb m 1 ≡ v → (v && eqb m 0) ≡ false
      exclusive true g = rw (eqb-true m 1 g)
      exclusive false g = refl

      by-tests : (mz m1 nz ns : Bool) → (m1 && mz) ≡ false → (nz && mz || ns && m1) ≡ (cond (not mz) ns nz && (m1 || mz))
      by-tests true true nz ns e = absurd (true≢false e)
      by-tests true false true true e = refl
      by-tests true false true false e = refl
      by-tests true false false true e = refl
      by-tests true false false false e = refl
      by-tests false true true true e = refl
      by-tests false false true true e = refl
      by-tests false true true false e = refl
      by-tests false false true false e = refl
      by-tests false true false true e = refl
      by-tests false false false true e = refl
      by-tests false m1 false false e = refl

  pub of_plain : (k ≡ 20 → ⊥) → (k ≡ 21 → ⊥) → (k ≡ 22 → ⊥) →
      (ltb k 14 && eqb n 0 && eqb m 0) ≡ (not (holds_inner k) && good_layer (layer k n m))
  unfolding good_layer
  of_plain a b c = by_count (ltb k 14) refl
    where
      Told : Bool → Type 0
      Told t = (t && eqb n 0 && eqb m 0) ≡ (not (holds_inner k) && good_layer (layer k n m))

      not-kind : holds_inner k ≡ false → (l : ℕ) → holds_inner l ≡ true → k ≡ l → ⊥
      not-kind h l g = eqb-false k l (apart holds_inner k l false h g)

      far : 14 ≤ k → (h : Bool) → holds_inner k ≡ h → false ≡ (not h && good_layer (layer k n m))
      far l true h = refl
      far l false h =
          let array : 17 ≤ k = omega (arith, not-kind h 14 refl, not-kind h 15 refl, not-kind h 16 refl) in
          let other : 20 ≤ k = omega (arith, not-kind h 17 refl, not-kind h 18 refl, not-kind h 19 refl) in
          let unknown : 25 ≤ k = omega (arith, a, b, c, not-kind h 23 refl, not-kind h 24 refl) in
          rw (le-ltb k 25 unknown)

      by_count : (t : Bool) → ltb k 14 ≡ t → Told t
      by_count true g =
          let l = ltb-true k 14 g in
          rw (ne_eqb k 14 (λ z. omega arith), ne_eqb k 15 (λ z. omega arith), ne_eqb k 16 (λ z. omega arith), ne_eqb k 17 (λ z. omega arith), ne_eqb k 18 (λ z. omega arith), ne_eqb k 19 (λ z. omega arith), ne_eqb k 20 (λ z. omega arith), ne_eqb k 21 (λ z. omega arith), ne_eqb k 22 (λ z. omega arith), ne_eqb k 23 (λ z. omega arith), ne_eqb k 24 (λ z. omega arith), lt-ltb k 25 (omega arith))
      by_count false g = far (ltb-false k 14 g) (holds_inner k) refl

  pub of_low : k < 14 → (eqb n 0 && eqb m 0) ≡ (not (holds_inner k) && good_layer (layer k n m))
  of_low l =
      rw (lt-ltb k 14 l) at
      (of_plain (λ e. omega arith) (λ e. omega arith) (λ e. omega arith))

  pub no-leaf : 14 ≤ k → (k ≡ 20 → ⊥) → (k ≡ 21 → ⊥) → (k ≡ 22 → ⊥) → false ≡ (not (holds_inner k) && good_layer (layer k n m))
  no-leaf l a b c = rw (le-ltb k 14 l) at (of_plain a b c)

-- what a holder and a leaf are told by
pub ruleset holder_by = (of_common, of_array, of_named, of-other)

pub ruleset leaf_by = (of_low, of_struct, of_word, of-unresolved, no-leaf)
