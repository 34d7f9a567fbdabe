-- A run of words has no layer, or an outer layer and the layers of the words from the fourth on.
-- Assumes nothing.
use mathlib.Core.Path.{◌≡◌, refl, sym}
use mathlib.Core.List.{List, [], ◌∷◌}
use Prim.Native.Nat.{ℕ, ◌+◌, ◌-◌, ◌≤◌, ◌<◌}
use native.Mathlib.Omega.{arith}
use lib.ListN.{length, take, drop, get_or, length-drop, length-take, drop_of_length-le}
use lib.Seq.{take_all}
use lib.Dec.{T, leb, leb→le}
use Rattle.type_layers.specs.Layers.{layers, outer, inside}
use Rattle.type_layers.specs.AsCoded.{head, Whole}

-- the words from a place on, as the code takes them
abbrev pub part : List ℕ → ℕ → List ℕ
part a i = take (length a - i) (drop i a)

pub part-is : (a : List ℕ) (i : ℕ) → part a i ≡ drop i a
part-is a i = take_all (length a - i) (drop i a) (simp length-drop (omega arith))

-- those from the fourth on
abbrev pub rest : List ℕ → List ℕ
rest a = part a 3

pub rest-is : (a : List ℕ) → rest a ≡ drop 3 a
rest-is a = part-is a 3

pub none : (a : List ℕ) → length a < 3 → layers a ≡ []
unfolding layers
none [] h = refl
none (k ∷ []) h = refl
none (k ∷ n ∷ []) h = refl
none (k ∷ n ∷ m ∷ ws) h = absurd (omega arith)

pub more-drop : (a : List ℕ) → 3 ≤ length a → layers a ≡ head a ∷ layers (drop 3 a)
unfolding layers
more-drop [] h = absurd (omega arith)
more-drop (k ∷ []) h = absurd (omega arith)
more-drop (k ∷ n ∷ []) h = absurd (omega arith)
more-drop (k ∷ n ∷ m ∷ ws) h = refl

pub more : (a : List ℕ) → 3 ≤ length a → layers a ≡ head a ∷ layers (rest a)
more a h = rw (rest-is a) (more-drop a h)

-- the inner type's words are the inner type
pub inner-layers : (a : List ℕ) → layers (drop 3 a) ≡ inside (layers a)
unfolding layers inside
inner-layers [] = refl
inner-layers (k ∷ []) = refl
inner-layers (k ∷ n ∷ []) = refl
inner-layers (k ∷ n ∷ m ∷ ws) = refl

-- the measure of a recursion on the part falls, also with a number added
pub shorter : (a : List ℕ) (t : ℕ) → length a ≡ t → 3 ≤ length a → length (rest a) < t
shorter a t e h = simp (length-take, length-drop) (omega arith)

pub shorter-by : (a : List ℕ) (t i j : ℕ) → length a + i ≡ t → 3 ≤ length a → T (leb 1 i) → T (leb j 3) → length (rest a) + j < t
shorter-by a t i j e h p q =
    simp (length-take, length-drop) (omega (arith, leb→le 1 i p, leb→le j 3 q))

-- what the code reads of the outer layer
module _ (a : List ℕ) where
  pub outer-none : length a < 3 → 25 ≡ outer (layers a)
  unfolding outer
  outer-none h = rw (none a)

  pub outer-more : 3 ≤ length a → get_or a 0 0 ≡ outer (layers a)
  unfolding outer
  outer-more h = rw (more a)

  pub inner-none : length a < 3 → take 0 a ≡ drop 3 a
  inner-none h =
      let short : length a ≤ 3 = omega arith in
      sym (drop_of_length-le a short)

-- the words inside whole layers are whole layers
pub inner-whole : (ws : List ℕ) → Whole ws → Whole (drop 3 ws)
inner-whole ws w = let n = length-drop 3 ws in record { whole = omega (arith, n, w.whole); few = omega (arith, n, w.few) }
