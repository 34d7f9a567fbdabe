-- Sub-autoderefs and autoderefs, as the code asks them.
-- Assumes nothing.
use mathlib.Core.Path.{◌≡◌, refl}
use mathlib.Core.Bool.{Bool, true, false, cond, ◌&&◌, ◌||◌, or_assoc, false≢true, not}
use mathlib.Core.List.{List, [], ◌∷◌}
use Prim.Native.Nat.{ℕ, ◌≤◌, ◌<◌}
use lib.Dec.{eqb}
use lib.ListN.{length, get_or}
use borrow.Author.Tests.{eq-eqb, ne_eqb, eqb-true, not-false}
use Rattle.type_numbers.specs.Kind as kind
use Rattle.type_layers.specs.Layers.{Layer, layers, outer, inside, inner_words, is_reference}
use Rattle.type_layers.specs.AsCoded.{head}
use Rattle.type_layers.proofs.Words.{rest, none, more, inner-layers}
use Rattle.relation_equals.specs.Equals.{equals}
use Rattle.relation_coerces.specs.Coerces.{coerces, address_coerces, subautoderefs, is_array_or_struct, view_autoderefs, pointer_autoderefs, autoderefs}
use Rattle.relation_coerces.specs.AsCoded.{may_equal}
use Rattle.relation_coerces.proofs.Theorems.{as-value, by-address}
use Rattle.relation_coerces.proofs.OnePass.{apart, one_line}

-- sub-autoderefs: a View or a Pointer, whose inner type is the words from the fourth on
module _ (a b : List ℕ) where
  pub sub_none : length a < 3 → subautoderefs (layers a) (layers b) ≡ false
  unfolding subautoderefs
  sub_none h = rw (none a)

  module _ (h : 3 ≤ length a) where
    pub sub_other : is_reference (get_or a 0 0) ≡ false → subautoderefs (layers a) (layers b) ≡ false
    unfolding subautoderefs
    sub_other e = rw (more a, e)

    -- where a holds what equals b
    pub sub-equal : (t : Bool) → t ≡ is_reference (get_or a 0 0) → not t ≡ false → (f : Bool) → f ≡ equals (layers (rest a)) (layers b) → f ≡ true →
        f ≡ subautoderefs (layers a) (layers b)
    unfolding subautoderefs
    sub-equal t e q f p g = rw (more a, ← e, not-false t q, ← p, g)

    module _ (e : is_reference (get_or a 0 0) ≡ true) where
      pub sub_held : outer (layers b) ≡ get_or a 0 0 → subautoderefs (layers a) (layers b) ≡ subautoderefs (layers (rest a)) (layers (inner_words b))
      sub_held u = rw (more a, one_line (head a) (layers (rest a)) (layers b), e, eq-eqb (outer (layers b)) (get_or a 0 0) u, inner-layers b)

      pub sub_further : (outer (layers b) ≡ get_or a 0 0 → ⊥) → subautoderefs (layers a) (layers b)
          ≡ cond (equals (layers (rest a)) (layers b)) true (subautoderefs (layers (rest a)) (layers b))
      sub_further u = rw (more a, one_line (head a) (layers (rest a)) (layers b), e, ne_eqb (outer (layers b)) (get_or a 0 0) u)

-- a View or a Pointer equals nothing of another kind
pub words_apart : (d b : List ℕ) → may_equal (outer (layers d)) (outer (layers b)) ≡ false → equals (layers d) (layers b) ≡ false
words_apart d b = apart (layers d) (layers b)

-- the lines that autoderefs has for a View and a Pointer are "a equals b", here u, and those of sub-autoderefs
lines : (k : ℕ) (a b : List Layer) (u : Bool) → outer a ≡ k → is_reference k ≡ true →
    (u || equals (inside a) b || subautoderefs (inside a) b || eqb (outer b) k && subautoderefs (inside a) (inside b))
    ≡ (u || subautoderefs a b)
unfolding outer inside subautoderefs
lines k [] b u e t = absurd (false≢true (rw (← e) at t))
lines k (x ∷ d) b u e t = rw (e, t) (simp or_assoc)

pub auto_looked : (a b : List ℕ) → autoderefs (layers a) (layers b)
    ≡ cond (is_array_or_struct (outer (layers a))) (equals (layers a) (layers b) || coerces (layers a) (layers b))
    (cond (eqb (outer (layers a)) kind.view) (equals (layers a) (layers b) || subautoderefs (layers a) (layers b))
    (cond (eqb (outer (layers a)) kind.pointer)
    (equals (layers a) (layers b) || subautoderefs (layers a) (layers b) || address_coerces (layers (inner_words a)) (layers b))
    false))
unfolding autoderefs view_autoderefs pointer_autoderefs
auto_looked a b = by_kinds (eqb (outer (layers a)) kind.view) (eqb (outer (layers a)) kind.pointer) refl refl
  where
    by_kinds : (u v : Bool) → eqb (outer (layers a)) kind.view ≡ u → eqb (outer (layers a)) kind.pointer ≡ v → autoderefs (layers a) (layers b)
        ≡ cond (is_array_or_struct (outer (layers a))) (equals (layers a) (layers b) || coerces (layers a) (layers b))
        (cond u (equals (layers a) (layers b) || subautoderefs (layers a) (layers b))
        (cond v (equals (layers a) (layers b) || subautoderefs (layers a) (layers b) || address_coerces (layers (inner_words a)) (layers b))
        false))
    by_kinds true v p q = rw (p, lines kind.view (layers a) (layers b) (equals (layers a) (layers b)) (eqb-true (outer (layers a)) kind.view p) refl)
    by_kinds false true p q =
        rw (p, q, lines kind.pointer (layers a) (layers b) (equals (layers a) (layers b)) (eqb-true (outer (layers a)) kind.pointer q) refl, inner-layers a)
    by_kinds false false p q = rw (p, q)

-- k is the outer kind of a
pub auto-view : (a b : List ℕ) (k : ℕ) (f r : Bool) → k ≡ outer (layers a) → f ≡ is_array_or_struct k → f ≡ false → k ≡ kind.view →
    r ≡ (equals (layers a) (layers b) || subautoderefs (layers a) (layers b)) → r ≡ autoderefs (layers a) (layers b)
auto-view a b k f r p e n t s = rw (auto_looked a b, ← p, ← e, n, t) s

pub ruleset sub_asked = (sub_none, sub_other, sub_held, sub_further, words_apart)

pub ruleset auto_asked = (auto_looked, auto-view, as-value, by-address)
