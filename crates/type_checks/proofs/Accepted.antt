-- What is known of words that pass the checks 1 to 3.
-- Assumes nothing.
use mathlib.Core.Path.{◌≡◌, refl, sym, ap, ◌∙◌}
use mathlib.Core.Bool.{Bool, true, false, cond, not, ◌&&◌, ◌||◌, false≢true}
use mathlib.Core.List.{List, [], ◌∷◌}
use Prim.Native.Nat.{ℕ, ◌+◌, ◌*◌, ◌/◌, ◌%◌, ◌<◌}
use native.Mathlib.Nat.{not-suc-le-zero}
use native.Mathlib.Omega.{arith}
use lib.Dec.{eqb, ltb}
use lib.ListN.{length}
use borrow.Author.Tests.{ltb-true, ltb-false, eqb-true, eqb-false}
use Rattle.type_numbers.specs.Kind as kind
use Rattle.type_layers.specs.Layers.{Layer, layers, outer, holds_inner}
use Rattle.type_layers.specs.AsCoded.{Whole}
use Rattle.type_layers.specs.Answer.{Answer, given, refused, is_given}
use Rattle.type_checks.specs.Check.{Place, at, nowhere, bad_count, good_kind, good_name, good_number, good_layer, bad_word, word_in, bad_layer, misplaced, unless, check_of}
use Rattle.type_layers.proofs.Decide.{both, neither}
use Rattle.type_layers.proofs.Given.{not-given}
use Rattle.type_layers.proofs.Spelling.{spelled-length, spelled-layers}
use Rattle.type_checks.proofs.Theorems.{at-nowhere, nowhere-good}
use Rattle.type_checks.proofs.Checks.{counted}
use Rattle.type_checks.proofs.Passing.{counted-by}

-- every layer is good
unfoldable pub good_layers : List Layer → Bool
good_layers [] = true
good_layers (x ∷ a) = good_layer x && good_layers a

no-bad-layer : (p : ℕ) (a : List Layer) → bad_layer p a ≡ nowhere → good_layers a ≡ true
unfolding good_layers bad_layer
no-bad-layer p [] e = refl
no-bad-layer p (x ∷ a) e = by_word (bad_word x) refl e (no-bad-layer (p + 1) a)
  where
    by_word : (q : Place) → bad_word x ≡ q → word_in p q (bad_layer (p + 1) a) ≡ nowhere → (bad_layer (p + 1) a ≡ nowhere → good_layers a ≡ true) →
        (good_layer x && good_layers a) ≡ true
    by_word nowhere h f i = rw (nowhere-good x h) (i f)
    by_word (at w) h f i = absurd (at-nowhere (3 * p + w) f)

-- a layer that holds an inner type has one inside, in its place
pub placed-inside : (p : ℕ) (x : Layer) (a : List Layer) → misplaced p (x ∷ a) ≡ nowhere → holds_inner x.kind ≡ true →
    (0 < length a) × (misplaced (p + 1) a ≡ nowhere)
unfolding misplaced
placed-inside p x [] e h = absurd (at-nowhere p (rw h at e))
placed-inside p x (y ∷ a) e h = (omega arith, rw h at e)

by-checks : (n : ℕ) (b : Bool) (l m : Place) (c : Answer ℕ) → cond b (refused 1 0) (unless l 2 (unless m 3 c)) ≡ given n →
    (b ≡ false) × ((l ≡ nowhere) × (m ≡ nowhere))
by-checks n true l m c e = absurd (not-given 1 0 n e)
by-checks n false (at p) m c e = absurd (not-given 2 p n e)
by-checks n false nowhere (at p) c e = absurd (not-given 3 p n e)
by-checks n false nowhere nowhere c e = (refl, (refl, refl))

module _ (ws : List ℕ) (n : ℕ) (e : check_of ws ≡ given n) where
  checks : (bad_count (length ws) ≡ false) × ((bad_layer 0 (layers ws) ≡ nowhere) × (misplaced 0 (layers ws) ≡ nowhere))
  unfolding check_of
  checks = by-checks n (bad_count (length ws)) (bad_layer 0 (layers ws)) (misplaced 0 (layers ws)) (given (length ws / 3)) e

  pub accepted-whole : Whole ws
  accepted-whole =
      let c = counted (eqb (length ws) 0) (ltb 48 (length ws)) (eqb (length ws % 3) 0) checks.0 in
      record { whole = eqb-true (length ws % 3) 0 c.1; few = ltb-false 48 (length ws) c.0 }

  pub accepted-good : good_layers (layers ws) ≡ true
  accepted-good = no-bad-layer 0 (layers ws) checks.1.0

  pub accepted-placed : misplaced 0 (layers ws) ≡ nowhere
  accepted-placed = checks.1.1

  -- the words are those of at least one layer
  pub accepted-count : (length ws ≡ 3 * length (layers ws)) × (0 < length (layers ws))
  accepted-count =
      let f = (neither (eqb (length ws) 0 || ltb 48 (length ws)) (not (eqb (length ws % 3) 0)) checks.0).0 in
      let k : length ws ≡ 3 * length (layers ws) = sym (ap length (spelled-layers ws accepted-whole.whole)) ∙ spelled-length (layers ws) in
      (k, omega (arith, k, eqb-false (length ws) 0 (neither (eqb (length ws) 0) (ltb 48 (length ws)) f).0))

  -- a type whose outer kind holds an inner type has words for it
  pub accepted-inside : holds_inner (outer (layers ws)) ≡ true → 3 < length ws
  unfolding outer
  accepted-inside h = omega (arith, accepted-count.0, more (layers ws) accepted-placed h)
    where
      more : (a : List Layer) → misplaced 0 a ≡ nowhere → holds_inner (outer a) ≡ true → 1 < length a
      more [] q f = absurd (false≢true f)
      more (x ∷ a) q f = omega (arith, (placed-inside 0 x a q f).0)

  -- the outer kind is one of the 25
  pub accepted-kind : outer (layers ws) < kind.none
  unfolding outer good_layers good_layer
  accepted-kind = first (layers ws) accepted-good accepted-count.1
    where
      first : (a : List Layer) → good_layers a ≡ true → 0 < length a → outer a < kind.none
      first [] g h = absurd (not-suc-le-zero h)
      first (x ∷ a) g h =
          let l = (both (good_kind x && good_name x) (good_number x) (both (good_layer x) (good_layers a) g).0).0 in
          ltb-true x.kind kind.none (both (good_kind x) (good_name x) l).0

pub good-whole : (ws : List ℕ) → is_given (check_of ws) ≡ true → Whole ws
good-whole ws e = accepted-whole ws (length ws / 3) (sym (counted-by ws true (sym e) refl))
