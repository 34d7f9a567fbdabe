-- Like, declared as and concretization, as the code asks them.
-- Assumes nothing.
use mathlib.Core.Path.{◌≡◌, refl}
use mathlib.Core.Bool.{Bool, true, false, cond}
use mathlib.Core.List.{List, [], ◌∷◌}
use Prim.Native.Nat.{ℕ, ◌≤◌, ◌<◌}
use lib.ListN.{length, get_or}
use Rattle.type_layers.specs.Layers.{Layer, layers, outer, inner_words}
use Rattle.type_layers.specs.AsCoded.{head}
use Rattle.type_layers.proofs.Words.{rest, none, more, inner-layers}
use Rattle.relation_equals.specs.Equals.{identical}
use Rattle.relation_declared.specs.Declared.{like, declared, declares_arraylike, slice_pointer_meets_pointer, concretization, same_holder, array_meets_arraylike, meets_arraylike, resolves}

-- where either has no layer
like-end : (a : List Layer) → like a [] ≡ identical a []
unfolding like
like-end [] = refl
like-end (x ∷ a) = refl

concrete-end : (a : List Layer) → concretization a [] ≡ identical a []
unfolding concretization
concrete-end [] = refl
concrete-end (x ∷ a) = refl

module _ (a b : List ℕ) where
  pub like_left : length a < 3 → like (layers a) (layers b) ≡ identical (layers a) (layers b)
  unfolding like
  like_left h = rw (none a)

  pub like_right : length b < 3 → like (layers a) (layers b) ≡ identical (layers a) (layers b)
  like_right h = rw (none b, like-end (layers a))

  module _ (f r : Bool) (h : 3 ≤ length a) (k : 3 ≤ length b) (e : f ≡ array_meets_arraylike (get_or a 0 0) (get_or b 0 0)) where
    pub like-in : f ≡ true → r ≡ like (layers (rest a)) (layers (rest b)) → r ≡ like (layers a) (layers b)
    unfolding like
    like-in g i = rw (more a, more b, ← e, g) i

    pub like-out : f ≡ false → r ≡ identical (layers a) (layers b) → r ≡ like (layers a) (layers b)
    unfolding like
    like-out g i = rw (more a, more b, ← e, g) (rw (more a, more b) at i)

-- declared as: k and l are the outer kinds of a and b, d and c are what they hold
module _ (a b c d : List ℕ) (k l : ℕ) (f r : Bool) (p : k ≡ outer (layers a)) (q : l ≡ outer (layers b))
    (u : d ≡ inner_words a) (i : c ≡ inner_words b) (e : f ≡ declares_arraylike k l) where
  pub declared-array : f ≡ true → r ≡ identical (layers d) (layers c) → r ≡ declared (layers a) (layers b)
  unfolding declared
  declared-array t s = rw (← p, ← q, ← e, t, ← inner-layers a, ← inner-layers b, ← u, ← i) s

  module _ (n : f ≡ false) (m : ℕ) (w : m ≡ outer (layers c)) (g : Bool) (j : g ≡ slice_pointer_meets_pointer k l m) where
    pub declared-pointer : (o : List ℕ) → g ≡ true → o ≡ inner_words c → r ≡ identical (layers d) (layers o) →
        r ≡ declared (layers a) (layers b)
    unfolding declared
    declared-pointer o t v s =
        rw (← p, ← q, ← e, n, ← inner-layers b, ← i, ← w, ← j, t, ← inner-layers a, ← inner-layers c, ← u, ← v) s

    pub declared_same : g ≡ false → r ≡ identical (layers a) (layers b) → r ≡ declared (layers a) (layers b)
    unfolding declared
    declared_same t s = rw (← p, ← q, ← e, n, ← inner-layers b, ← i, ← w, ← j, t) s

module _ (a b : List ℕ) where
  pub concrete_left : length a < 3 → concretization (layers a) (layers b) ≡ identical (layers a) (layers b)
  unfolding concretization
  concrete_left h = rw (none a)

  pub concrete_right : length b < 3 → concretization (layers a) (layers b) ≡ identical (layers a) (layers b)
  concrete_right h = rw (none b, concrete-end (layers a))

  pub concrete_looked : 3 ≤ length a → 3 ≤ length b → concretization (layers a) (layers b)
      ≡ cond (same_holder (head a) (head b)) (concretization (layers (rest a)) (layers (rest b)))
      (cond (meets_arraylike (get_or a 0 0) (get_or b 0 0)) (like (layers (rest a)) (layers (rest b)))
      (cond (slice_pointer_meets_pointer (get_or a 0 0) (get_or b 0 0) (outer (layers (rest b))))
      (like (layers (rest a)) (layers (inner_words (rest b))))
      (cond (resolves (head a) (head b)) true
      (identical (layers a) (layers b)))))
  unfolding concretization
  concrete_looked h k = rw (inner-layers (rest b), more a, more b)

  -- by the outcome of each test, as the code holds it
  module _ (f r : Bool) (h : 3 ≤ length a) (k : 3 ≤ length b) (e : f ≡ same_holder (head a) (head b)) where
    pub concrete-in : f ≡ true → r ≡ concretization (layers (rest a)) (layers (rest b)) → r ≡ concretization (layers a) (layers b)
    concrete-in t q = rw (concrete_looked h k, ← e, t) q

    module _ (g : Bool) (t : f ≡ false) (p : g ≡ meets_arraylike (get_or a 0 0) (get_or b 0 0)) where
      pub concrete-like : g ≡ true → r ≡ like (layers (rest a)) (layers (rest b)) → r ≡ concretization (layers a) (layers b)
      concrete-like u q = rw (concrete_looked h k, ← e, t, ← p, u) q

      module _ (v : Bool) (m : ℕ) (u : g ≡ false) (w : m ≡ outer (layers (rest b)))
          (j : v ≡ slice_pointer_meets_pointer (get_or a 0 0) (get_or b 0 0) m) where
        pub concrete-pointer : (d : List ℕ) → v ≡ true → d ≡ inner_words (rest b) → r ≡ like (layers (rest a)) (layers d) → r ≡ concretization (layers a) (layers b)
        concrete-pointer d x i q = rw (concrete_looked h k, ← e, t, ← p, u, ← w, ← j, x, ← i) q

        module _ (z : Bool) (x : v ≡ false) (y : z ≡ resolves (head a) (head b)) where
          pub concrete-resolved : z ≡ true → z ≡ concretization (layers a) (layers b)
          concrete-resolved i = rw (concrete_looked h k, ← e, t, ← p, u, ← w, ← j, x, ← y, i)

          pub concrete-same : z ≡ false → r ≡ identical (layers a) (layers b) → r ≡ concretization (layers a) (layers b)
          concrete-same i q = rw (concrete_looked h k, ← e, t, ← p, u, ← w, ← j, x, ← y, i) q

pub ruleset declares = (declared-array, declared-pointer, declared_same)
