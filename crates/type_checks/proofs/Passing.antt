-- Words that pass the checks: layers that hold an inner type, one after the other, and a leaf.
-- Assumes nothing.
use mathlib.Core.Path.{◌≡◌, refl, sym, ◌∙◌}
use mathlib.Core.Bool.{Bool, true, false, cond, not, ◌&&◌, ◌||◌, and-false, or-true, false≢true}
use mathlib.Core.List.{List, [], ◌∷◌}
use Prim.Native.Nat.{ℕ, ◌+◌, ◌/◌, ◌%◌, ◌≤◌, ◌<◌}
use native.Mathlib.Omega.{arith}
use lib.Dec.{eqb, leb, ltb}
use lib.ListN.{length, drop, get_or}
use borrow.Author.Tests.{le-ltb, lt-leb, lt-ltb, eqb-true, eqb-false}
use Rattle.type_layers.specs.Layers.{Layer, layer, layers, holds_inner}
use Rattle.type_layers.specs.AsCoded.{head}
use Rattle.type_layers.proofs.Words.{part, part-is}
use Rattle.type_layers.specs.Answer.{given, refused, is_given}
use Rattle.type_checks.specs.Check.{Place, at, nowhere, bad_count, good_layer, bad_word, word_in, bad_layer, misplaced, unless, check_of}
use Rattle.type_checks.specs.AsCoded.{good_words}
use Rattle.type_checks.proofs.Theorems.{is_nowhere, told-exactly}

-- a layer of another word count is left over
left-over : (ws : List ℕ) → (length ws % 3 ≡ 0 → ⊥) → good_words ws ≡ false
unfolding good_words
left-over [] n = refl
left-over (k ∷ []) n = refl
left-over (k ∷ x ∷ []) n = refl
left-over (k ∷ x ∷ m ∷ []) n = absurd (n refl)
left-over (k ∷ x ∷ m ∷ w ∷ ws) n =
    rw (left-over (w ∷ ws) (λ e. n (omega (arith, e)))) (and-false (holds_inner k && good_layer (layer k x m)))

nothing_there : (ws : List ℕ) → length ws ≡ 0 → good_words ws ≡ false
unfolding good_words
nothing_there [] e = refl
nothing_there (k ∷ ws) e = absurd (omega (arith, e))

-- as the code reads the words
abbrev holder : List ℕ → Bool
holder ws = holds_inner (get_or ws 0 0) && good_layer (head ws)

pub few_words : (ws : List ℕ) → length ws < 3 → false ≡ good_words ws
unfolding good_words
few_words [] l = refl
few_words (k ∷ []) l = refl
few_words (k ∷ n ∷ []) l = refl
few_words (k ∷ n ∷ m ∷ ws) l = absurd (omega arith)

last_words : (ws : List ℕ) → 3 ≤ length ws → length ws < 4 → (not (holds_inner (get_or ws 0 0)) && good_layer (head ws)) ≡ good_words ws
unfolding good_words
last_words [] l h = absurd (omega arith)
last_words (k ∷ []) l h = absurd (omega arith)
last_words (k ∷ n ∷ []) l h = absurd (omega arith)
last_words (k ∷ n ∷ m ∷ []) l h = refl
last_words (k ∷ n ∷ m ∷ w ∷ ws) l h = absurd (omega arith)

pub last-leaf : (ws : List ℕ) → 3 ≤ length ws → length ws < 4 → (g : Bool) → g ≡ (not (holds_inner (get_or ws 0 0)) && good_layer (head ws)) → g ≡ good_words ws
last-leaf ws l h g e = e ∙ last_words ws l h

pub more_words : (ws : List ℕ) → 4 ≤ length ws → (holder ws && good_words (part ws 3)) ≡ good_words ws
unfolding good_words
more_words ws l = rw (part-is ws 3) (by_word ws l)
  where
    by_word : (ws : List ℕ) → 4 ≤ length ws → (holder ws && good_words (drop 3 ws)) ≡ good_words ws
    by_word [] l = absurd (omega arith)
    by_word (k ∷ []) l = absurd (omega arith)
    by_word (k ∷ n ∷ []) l = absurd (omega arith)
    by_word (k ∷ n ∷ m ∷ []) l = absurd (omega arith)
    by_word (k ∷ n ∷ m ∷ w ∷ ws) l = refl

module _ (ws : List ℕ) (l : 4 ≤ length ws) (g : Bool) (e : g ≡ holder ws) where
  pub bad-holder : g ≡ false → g ≡ good_words ws
  bad-holder f = rw f (sym (sym (more_words ws l) ∙ rw (← e, f)))

  pub good-holder : (r : Bool) → g ≡ true → r ≡ good_words (part ws 3) → r ≡ good_words ws
  good-holder r f q = q ∙ (sym (rw (← e, f)) ∙ more_words ws l)

-- what the two checks of the layers find
abbrev found : Place → Place → Bool
found p q = is_nowhere p && is_nowhere q

module _ (x : Layer) (p : ℕ) where
  last : (not (holds_inner x.kind) && good_layer x) ≡ found (bad_layer p (x ∷ [])) (misplaced p (x ∷ []))
  unfolding bad_layer misplaced
  last = rw (told-exactly x) (by-tests (holds_inner x.kind) (bad_word x))
    where
      by-tests : (h : Bool) (w : Place) → (not h && is_nowhere w) ≡ found (word_in p w nowhere) (cond h (at p) nowhere)
      by-tests true (at w) = refl
      by-tests true nowhere = refl
      by-tests false (at w) = refl
      by-tests false nowhere = refl

  before : (y : Layer) (a : List Layer) (good : Bool) → good ≡ found (bad_layer (p + 1) (y ∷ a)) (misplaced (p + 1) (y ∷ a)) →
      (holds_inner x.kind && good_layer x && good) ≡ found (bad_layer p (x ∷ y ∷ a)) (misplaced p (x ∷ y ∷ a))
  unfolding bad_layer misplaced
  before y a good e =
      rw (told-exactly x, e) (by-tests (holds_inner x.kind) (bad_word x) (bad_layer (p + 1) (y ∷ a)) (misplaced (p + 1) (y ∷ a)))
    where
      by-tests : (h : Bool) (w b m : Place) → (h && is_nowhere w && found b m) ≡ found (word_in p w b) (cond h m (at p))
      by-tests true (at w) b m = refl
      by-tests true nowhere b m = refl
      by-tests false (at w) b m = refl
      by-tests false nowhere (at v) m = refl
      by-tests false nowhere nowhere m = refl

-- the test of whole layers is that of the checks 2 and 3
layered : (p : ℕ) (ws : List ℕ) → 0 < length ws → length ws % 3 ≡ 0 → good_words ws ≡ found (bad_layer p (layers ws)) (misplaced p (layers ws))
unfolding good_words layers
layered p [] l e = absurd (omega arith)
layered p (k ∷ []) l e = absurd (omega (arith, e))
layered p (k ∷ n ∷ []) l e = absurd (omega (arith, e))
layered p (k ∷ n ∷ m ∷ []) l e = last (layer k n m) p
layered p (k ∷ n ∷ m ∷ w ∷ []) l e = absurd (omega (arith, e))
layered p (k ∷ n ∷ m ∷ w ∷ v ∷ []) l e = absurd (omega (arith, e))
layered p (k ∷ n ∷ m ∷ w ∷ v ∷ u ∷ ws) l e =
    before (layer k n m) p (layer w v u) (layers ws) (good_words (w ∷ v ∷ u ∷ ws)) (layered (p + 1) (w ∷ v ∷ u ∷ ws) (omega arith) (omega (arith, e)))

module _ (ws : List ℕ) where
  fails-count : bad_count (length ws) ≡ true → false ≡ is_given (check_of ws)
  unfolding check_of
  fails-count e = rw e

  both-pass : bad_count (length ws) ≡ false → found (bad_layer 0 (layers ws)) (misplaced 0 (layers ws)) ≡ is_given (check_of ws)
  unfolding check_of
  both-pass e = rw e (by-places (bad_layer 0 (layers ws)) (misplaced 0 (layers ws)))
    where
      by-places : (p q : Place) → found p q ≡ is_given (unless p 2 (unless q 3 (given (length ws / 3))))
      by-places (at p) q = refl
      by-places nowhere (at q) = refl
      by-places nowhere nowhere = refl

  -- over 48 words
  too_many : 48 < length ws → false ≡ is_given (check_of ws)
  too_many l = fails-count (rw (lt-ltb 48 (length ws) l) (by_zero (eqb (length ws) 0)))
    where
      by_zero : (b : Bool) → (b || true || not (eqb (length ws % 3) 0)) ≡ true
      by_zero true = refl
      by_zero false = refl

  -- the layers' test, of at most 48 words
  passes : length ws ≤ 48 → good_words ws ≡ is_given (check_of ws)
  passes l = by_count (eqb (length ws) 0) (eqb (length ws % 3) 0) refl refl
    where
      by_count : (z w : Bool) → eqb (length ws) 0 ≡ z → eqb (length ws % 3) 0 ≡ w → good_words ws ≡ is_given (check_of ws)
      by_count true w f g =
          nothing_there ws (eqb-true (length ws) 0 f) ∙ fails-count (rw f)
      by_count false false f g =
          left-over ws (eqb-false (length ws % 3) 0 g) ∙ fails-count (rw (g) (or-true (eqb (length ws) 0 || ltb 48 (length ws))))
      by_count false true f g =
          layered 0 ws (omega (arith, eqb-false (length ws) 0 f)) (eqb-true (length ws % 3) 0 g)
          ∙ both-pass (rw (f, le-ltb 48 (length ws) l, g))

  pub passes_by : (good : Bool) → length ws ≤ 48 → good ≡ good_words ws → good ≡ is_given (check_of ws)
  passes_by good l e = e ∙ passes l

  pub fails_by : 48 < length ws → leb (length ws) 48 ≡ is_given (check_of ws)
  fails_by l = lt-leb (length ws) 48 l ∙ too_many l

-- words that pass are as many layers as they are threes of words
pub counted-by : (ws : List ℕ) (good : Bool) → good ≡ is_given (check_of ws) → good ≡ true → given (length ws / 3) ≡ check_of ws
unfolding check_of
counted-by ws good f e = by-checks (bad_count (length ws)) (bad_layer 0 (layers ws)) (misplaced 0 (layers ws)) (sym f ∙ e)
  where
    by-checks : (b : Bool) (p q : Place) → is_given (cond b (refused 1 0) (unless p 2 (unless q 3 (given (length ws / 3))))) ≡ true →
        given (length ws / 3) ≡ cond b (refused 1 0) (unless p 2 (unless q 3 (given (length ws / 3))))
    by-checks true p q e = absurd (false≢true e)
    by-checks false (at p) q e = absurd (false≢true e)
    by-checks false nowhere (at q) e = absurd (false≢true e)
    by-checks false nowhere nowhere e = refl

-- what the layers of some words are told by
pub ruleset layers_by = (few_words, last-leaf, good-holder, bad-holder)
