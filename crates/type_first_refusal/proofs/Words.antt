-- The bad word and the misplaced layer, as the code tells them.
-- Assumes nothing.
use mathlib.Core.Path.{◌≡◌, refl, sym, ap, ◌∙◌}
use mathlib.Core.Bool.{Bool, true, false, cond, not}
use mathlib.Core.List.{List, ◌∷◌}
use Prim.Native.Nat.{ℕ, ◌+◌, ◌*◌, ◌/◌, ◌%◌, ◌≤◌, ◌<◌}
use native.Mathlib.Omega.{arith}
use lib.ListN.{length, get_or, length-take, length-drop}
use borrow.Author.Tests.{lt-ltb, not-true, not-false}
use Rattle.std.specs.Prelude.{Option, Some, None}
use Rattle.std.specs.Bool.{then_some}
use Rattle.type_layers.specs.Layers.{Layer, layer, layers, holds_inner}
use Rattle.type_layers.specs.AsCoded.{head}
use Rattle.type_layers.specs.Answer.{given, refused}
use Rattle.type_layers.proofs.Words.{none, more, rest}
use Rattle.type_checks.specs.Check.{at, nowhere, bad_count, good_kind, good_name, good_number, good_layer, bad_word, bad_layer, misplaced, check_of}
use Rattle.type_first_refusal.specs.AsCoded.{of_place}
use Rattle.type_checks.proofs.Theorems.{no_kind, good-nowhere, told-first, first-told, below-3}

module _ (k n m : ℕ) where
  pub kind-told : 24 < k → at 0 ≡ bad_word (layer k n m)
  kind-told l = rw (no_kind k n m l)

  module _ (l : k ≤ 24) (f : Bool) (e : f ≡ good_name (layer k n m)) where
    known : good_kind (layer k n m) ≡ true
    known = lt-ltb k 25 (omega arith)

    pub name-told : not f ≡ true → at 1 ≡ bad_word (layer k n m)
    name-told h = rw (first-told (layer k n m) 1 (known, sym e ∙ not-true f h))

    module _ (h : not f ≡ false) (g : Bool) (j : g ≡ good_number (layer k n m)) where
      pub number-told : not g ≡ true → at 2 ≡ bad_word (layer k n m)
      number-told i = rw (first-told (layer k n m) 2 (known, (sym e ∙ not-false f h, sym j ∙ not-true g i)))

      pub none_told : not g ≡ false → nowhere ≡ bad_word (layer k n m)
      unfolding good_layer
      none_told i = rw (good-nowhere (layer k n m) (rw (known, ← e, not-false f h, ← j, not-false g i)))

-- a bad word is one of three
pub small_word : (x : Layer) (o : Option ℕ) (w : ℕ) → of_place o ≡ bad_word x → o ≡ Some w → w < 3
small_word x o w e f = below-3 w x (told-first x w (sym e ∙ ap of_place f))

-- the bad words of layers, the first one first
module _ (ws : List ℕ) (p : ℕ) where
  pub no-layer-bad : length ws < 3 → nowhere ≡ bad_layer p (layers ws)
  unfolding bad_layer
  no-layer-bad h = rw (none ws h)

  module _ (h : 3 ≤ length ws) where
    pub word-bad : (o : Option ℕ) (w : ℕ) → of_place o ≡ bad_word (head ws) → o ≡ Some w → at (3 * p + w) ≡ bad_layer p (layers ws)
    unfolding bad_layer
    word-bad o w e f = rw (more ws h, ← e, f)

    pub later-bad : (o r : Option ℕ) → of_place o ≡ bad_word (head ws) → o ≡ None → of_place r ≡ bad_layer (p + 1) (layers (rest ws)) →
        of_place r ≡ bad_layer p (layers ws)
    unfolding bad_layer
    later-bad o r e f g = rw (more ws h, ← e, f) g

-- the misplaced layers
module _ (ws : List ℕ) (p : ℕ) where
  pub none_misplaced : length ws < 3 → nowhere ≡ misplaced p (layers ws)
  unfolding misplaced
  none_misplaced h = rw (none ws h)

  pub last_misplaced : 3 ≤ length ws → length ws < 4 → (o : Option ℕ) (f : Bool) → f ≡ holds_inner (get_or ws 0 0) →
      o ≡ then_some f p → of_place o ≡ misplaced p (layers ws)
  unfolding misplaced
  last_misplaced h l o f e g =
      let short : length (rest ws) < 3 = simp (length-take, length-drop) (omega arith) in
      rw (more ws h, none (rest ws) short, g, ← e) (by-test f)
    where
      by-test : (t : Bool) → of_place (then_some t p) ≡ cond t (at p) nowhere
      by-test true = refl
      by-test false = refl

  module _ (h : 4 ≤ length ws) (d : length ws % 3 ≡ 0) (f : Bool) (e : f ≡ holds_inner (get_or ws 0 0)) where
    two : layers ws ≡ head ws ∷ head (rest ws) ∷ layers (rest (rest ws))
    two =
        let enough : 3 ≤ length (rest ws) = simp (length-take, length-drop) (omega (arith, d)) in
        rw (more ws (omega arith), more (rest ws) enough)

    pub early : f ≡ false → at p ≡ misplaced p (layers ws)
    unfolding misplaced
    early g = rw (two, ← e, g)

    pub later_misplaced : (o : Option ℕ) → f ≡ true → of_place o ≡ misplaced (p + 1) (layers (rest ws)) → of_place o ≡ misplaced p (layers ws)
    unfolding misplaced
    later_misplaced o g q =
        let enough : 3 ≤ length (rest ws) = simp (length-take, length-drop) (omega (arith, d)) in
        rw (two, ← e, g) (rw (more (rest ws) enough) at q)

-- the checks, one after the other
module _ (ws : List ℕ) where
  pub miscounted : bad_count (length ws) ≡ true → refused 1 0 ≡ check_of ws
  unfolding check_of
  miscounted e = rw e

  module _ (c : bad_count (length ws) ≡ false) (o : Option ℕ) (e : of_place o ≡ bad_layer 0 (layers ws)) where
    pub bad_told : (p : ℕ) → o ≡ Some p → refused 2 p ≡ check_of ws
    unfolding check_of
    bad_told p f = rw (c, ← e, f)

    module _ (f : o ≡ None) (q : Option ℕ) (g : of_place q ≡ misplaced 0 (layers ws)) where
      pub leaf_told : (p : ℕ) → q ≡ Some p → refused 3 p ≡ check_of ws
      unfolding check_of
      leaf_told p h = rw (c, ← e, f, ← g, h)

      pub all_good : q ≡ None → given (length ws / 3) ≡ check_of ws
      unfolding check_of
      all_good h = rw (c, ← e, f, ← g, h)
