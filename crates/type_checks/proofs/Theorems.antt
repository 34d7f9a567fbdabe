-- Which word of a bad layer is told, and that the checks accept what they accepted when the layer alone was told.
-- Assumes nothing.
use mathlib.Core.Path.{◌≡◌, refl, sym, ap, ◌∙◌}
use mathlib.Core.Bool.{Bool, true, false, cond, not, ◌&&◌, ◌||◌, true≢false}
use mathlib.Core.List.{List, [], ◌∷◌}
use Prim.Native.Nat.{ℕ, zero, suc, ◌+◌, ◌*◌, ◌-◌, ◌/◌, ◌%◌, ◌^◌, ◌≤◌, ◌<◌}
use native.Mathlib.Omega.{arith}
use lib.ListN.{length, take, get_or}
use borrow.Author.Tests.{le-leb, lt-leb, le-ltb, ne_eqb}
use Rattle.type_layers.specs.Layers.{Layer, layer, layers}
use Rattle.type_layers.specs.Answer.{Answer, given, nothing, refused, is_given}
use Rattle.type_checks.specs.Check.{Place, at, nowhere, bad_count, good_kind, good_name, good_number, good_layer, bad_word, word_in, bad_layer, misplaced, unless, check_of}
use Rattle.type_checks.specs.Earlier.{earlier_bad_layer, earlier_check_of, without_word}

-- no place was found
abbrev pub is_nowhere : Place → Bool
is_nowhere (at p) = false
is_nowhere nowhere = true

pub at-nowhere : (p : ℕ) → at p ≡ nowhere → ⊥
at-nowhere p e = true≢false (sym (ap is_nowhere e))

-- the same word
at_same : (p q : ℕ) → at p ≡ at q → p ≡ q
at_same p q e = ap number e
  where
    number : Place → ℕ
    number (at p) = p
    number nowhere = 0

-- the word is bad, and those before it are not
abbrev pub First : ℕ → Layer → Type 0
First zero x = good_kind x ≡ false
First (suc zero) x = (good_kind x ≡ true) × (good_name x ≡ false)
First (suc (suc zero)) x = (good_kind x ≡ true) × ((good_name x ≡ true) × (good_number x ≡ false))
First (suc (suc (suc w))) x = ⊥

module _ (x : Layer) where
  -- a layer is bad exactly where one of the three tests fails
  pub bad-exactly : not (good_layer x) ≡ (not (good_kind x) || not (good_name x) || not (good_number x))
  unfolding good_layer
  bad-exactly = by_tests (good_kind x) (good_name x) (good_number x)
    where
      by_tests : (k n m : Bool) → not (k && n && m) ≡ (not k || not n || not m)
      by_tests true true m = refl
      by_tests true false m = refl
      by_tests false n m = refl

  -- and exactly there a word is told
  pub told-exactly : good_layer x ≡ is_nowhere (bad_word x)
  unfolding good_layer bad_word
  told-exactly = by_tests (good_kind x) (good_name x) (good_number x)
    where
      by_tests : (k n m : Bool) → (k && n && m) ≡ is_nowhere (cond (not k) (at 0) (cond (not n) (at 1) (cond (not m) (at 2) nowhere)))
      by_tests true true true = refl
      by_tests true true false = refl
      by_tests true false m = refl
      by_tests false n m = refl

  pub good-nowhere : good_layer x ≡ true → bad_word x ≡ nowhere
  good-nowhere e = by_place (bad_word x) (sym told-exactly ∙ e)
    where
      by_place : (p : Place) → is_nowhere p ≡ true → p ≡ nowhere
      by_place (at w) e = absurd (true≢false (sym e))
      by_place nowhere e = refl

  pub nowhere-good : bad_word x ≡ nowhere → good_layer x ≡ true
  nowhere-good e = told-exactly ∙ ap is_nowhere e

  -- it is the first whose test fails
  pub told-first : (w : ℕ) → bad_word x ≡ at w → First w x
  unfolding bad_word
  told-first w e = by_tests (good_kind x) (good_name x) (good_number x) refl refl refl e
    where
      by_tests : (k n m : Bool) → good_kind x ≡ k → good_name x ≡ n → good_number x ≡ m →
          cond (not k) (at 0) (cond (not n) (at 1) (cond (not m) (at 2) nowhere)) ≡ at w → First w x
      by_tests false n m f g h e = rw (← at_same 0 w e) f
      by_tests true false m f g h e = rw (← at_same 1 w e) (f, g)
      by_tests true true false f g h e = rw (← at_same 2 w e) (f, (g, h))
      by_tests true true true f g h e = absurd (at-nowhere w (sym e))

  pub first-told : (w : ℕ) → First w x → bad_word x ≡ at w
  unfolding bad_word
  first-told zero f = rw f
  first-told (suc zero) (f, g) = rw (f, g)
  first-told (suc (suc zero)) (f, (g, h)) = rw (f, g, h)
  first-told (suc (suc (suc w))) f = absurd f

-- a kind over 24, whatever stands beside it
pub no_kind : (k n m : ℕ) → 24 < k → bad_word (layer k n m) ≡ at 0
unfolding bad_word
no_kind k n m l = rw (le-ltb k 25 (omega arith))

-- "Under kind 22 a name is judged as named unless the number is 0."
module _ (n m : ℕ) where
  pub named-name : 2 ^ 32 - 1 < n → (m ≡ 0 → ⊥) → bad_word (layer 22 n m) ≡ at 1
  unfolding bad_word
  named-name l z = rw (ne_eqb m 0 z, lt-leb n (2 ^ 32 - 1) l)

  pub named-number : n ≤ 2 ^ 32 - 1 → 1 < m → bad_word (layer 22 n m) ≡ at 2
  unfolding bad_word
  named-number l k = rw (ne_eqb m 0 (λ z. omega arith), le-leb n (2 ^ 32 - 1) l, lt-leb m 1 k)

  pub unnamed-name : (n ≡ 0 → ⊥) → bad_word (layer 22 n 0) ≡ at 1
  unfolding bad_word
  unnamed-name z = rw (ne_eqb n 0 z)

-- a word is one of three
pub below-3 : (w : ℕ) (x : Layer) → First w x → w < 3
below-3 zero x f = omega arith
below-3 (suc zero) x f = omega arith
below-3 (suc (suc zero)) x f = omega arith
below-3 (suc (suc (suc w))) x f = absurd f

-- no layer has a bad word
abbrev pub NoneBad : List Layer → Type 0
NoneBad [] = Unit
NoneBad (x ∷ a) = (bad_word x ≡ nowhere) × NoneBad a

-- the first bad word: no layer before has one, and in its own layer it is the first
pub record FirstBad (a : List Layer) (k w : ℕ) : Type 0 where
  pub there : k < length a
  pub before : NoneBad (take k a)
  pub first : First w (get_or a k (layer 0 0 0))

first-bad : (p : ℕ) (a : List Layer) (q : ℕ) → bad_layer p a ≡ at q → (k : ℕ) × ((w : ℕ) × ((q ≡ 3 * (p + k) + w) × FirstBad a k w))
unfolding bad_layer
first-bad p [] q e = absurd (at-nowhere q (sym e))
first-bad p (x ∷ a) q e = by_word (bad_word x) refl e (first-bad (p + 1) a q)
  where
    by_word : (r : Place) → bad_word x ≡ r → word_in p r (bad_layer (p + 1) a) ≡ at q →
        (bad_layer (p + 1) a ≡ at q → (k : ℕ) × ((w : ℕ) × ((q ≡ 3 * (p + 1 + k) + w) × FirstBad a k w))) →
        (k : ℕ) × ((w : ℕ) × ((q ≡ 3 * (p + k) + w) × FirstBad (x ∷ a) k w))
    by_word (at w) f e later =
        (0, (w, (omega (arith, at_same (3 * p + w) q e), record { there = omega arith; before = tt; first = told-first x w f })))
    by_word nowhere f e later =
        let t = later e in
        let b = t.1.1.1 in
        (suc t.0, (t.1.0, (omega (arith, t.1.1.0), record { there = omega (arith, b.there); before = (f, b.before); first = b.first })))

-- the place without the word
abbrev layer_of : Place → Place
layer_of (at q) = at (q / 3)
layer_of nowhere = nowhere

layer-kept : (p : ℕ) (a : List Layer) → layer_of (bad_layer p a) ≡ earlier_bad_layer p a
unfolding bad_layer earlier_bad_layer
layer-kept p [] = refl
layer-kept p (x ∷ a) = by_word (bad_word x) refl (layer-kept (p + 1) a)
  where
    by_word : (r : Place) → bad_word x ≡ r → layer_of (bad_layer (p + 1) a) ≡ earlier_bad_layer (p + 1) a →
        layer_of (word_in p r (bad_layer (p + 1) a)) ≡ cond (good_layer x) (earlier_bad_layer (p + 1) a) (at p)
    by_word nowhere e i = rw (nowhere-good x e) i
    by_word (at w) e i =
        let layer : (3 * p + w) / 3 ≡ p = omega (arith, below-3 w x (told-first x w e)) in
        rw (told-exactly x ∙ ap is_nowhere e, layer)

module _ (ws : List ℕ) where
  -- but for the word, the checks say what they said before
  pub as_before : without_word (check_of ws) ≡ earlier_check_of ws
  unfolding check_of earlier_check_of
  as_before = rw (← layer-kept 0 (layers ws)) (by-checks (bad_count (length ws)) (bad_layer 0 (layers ws)) (misplaced 0 (layers ws)))
    where
      by-checks : (b : Bool) (p r : Place) →
          without_word (cond b (refused 1 0) (unless p 2 (unless r 3 (given (length ws / 3)))))
          ≡ cond b (refused 1 0) (unless (layer_of p) 2 (unless r 3 (given (length ws / 3))))
      by-checks true p r = refl
      by-checks false (at p) r = refl
      by-checks false nowhere (at r) = refl
      by-checks false nowhere nowhere = refl

  pub accepts-as-before : is_given (check_of ws) ≡ is_given (earlier_check_of ws)
  accepts-as-before = alone (check_of ws) ∙ ap is_given as_before
    where
      alone : (x : Answer ℕ) → is_given x ≡ is_given (without_word x)
      alone (given n) = refl
      alone nothing = refl
      alone (refused n p) = refl

  -- the place of 2 tells the first bad word
  pub word-told : (q : ℕ) → check_of ws ≡ refused 2 q → FirstBad (layers ws) (q / 3) (q % 3)
  unfolding check_of
  word-told q e =
      let t = first-bad 0 (layers ws) q (by-checks (bad_count (length ws)) (bad_layer 0 (layers ws)) (misplaced 0 (layers ws)) e) in
      let small = below-3 t.1.0 (get_or (layers ws) t.0 (layer 0 0 0)) t.1.1.1.first in
      let l : q / 3 ≡ t.0 = omega (arith, t.1.1.0, small) in
      let w : q % 3 ≡ t.1.0 = omega (arith, t.1.1.0, small) in
      rw (l, w) t.1.1.1
    where
      by-checks : (b : Bool) (p r : Place) → cond b (refused 1 0) (unless p 2 (unless r 3 (given (length ws / 3)))) ≡ refused 2 q → p ≡ at q
      by-checks true p r e = cc
      by-checks false (at p) r e = cc
      by-checks false nowhere (at r) e = cc
      by-checks false nowhere nowhere e = cc
