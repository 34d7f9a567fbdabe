-- The answer and the buffer, by what became of the type.
-- Assumes nothing.
use mathlib.Core.Path.{◌≡◌, refl}
use mathlib.Core.List.{List, [], ◌∷◌, ◌++◌}
use Prim.Native.Nat.{ℕ, suc, ◌+◌, ◌*◌, ◌/◌, ◌≤◌, ◌<◌}
use native.Mathlib.Omega.{arith}
use lib.ListN.{length, take, length-append}
use borrow.Author.Tests.{lt-ltb, le-ltb}
use Rattle.type_layers.specs.Layers.{Layer, layers, spelled}
use Rattle.type_layers.specs.Answer.{Answer, given, refused}
use Rattle.type_layers.proofs.Spelling.{spelled-length, spelled-append}
use Rattle.write_words.specs.Written.{written}
use Rattle.write_words.proofs.Writing.{part, put, front-first}
use Rattle.write_type.specs.Outcome.{delivered, told, over}

-- the words of the layers
pub whole : (ws : List ℕ) → take (length ws / 3 * 3) ws ≡ spelled (layers ws)
unfolding spelled layers
whole [] = refl
whole (k ∷ []) = refl
whole (k ∷ n ∷ []) = refl
whole (k ∷ n ∷ m ∷ ws) =
    let e : suc (suc (suc (length ws))) / 3 * 3 ≡ suc (suc (suc (length ws / 3 * 3))) = omega arith in
    rw (e, ← whole ws)

-- a refusal is told, and the buffer stays
pub stays : (o : Answer (List Layer)) (n p : ℕ) (b : List ℕ) → o ≡ refused n p → (refused n p ≡ told o) × (b ≡ over o b)
unfolding told over
stays o n p b e = rw e (refl, refl)

-- the answer and the buffer of one outcome are those of an equal one
pub carried : (o q : Answer (List Layer)) (r : Answer ℕ) (b l : List ℕ) → o ≡ q → (r ≡ told o) × (l ≡ over o b) → (r ≡ told q) × (l ≡ over q b)
carried o q r b l e p = rw e at p

-- a type of some layers in front and the rest, in their words
module _ (out front rest f g : List ℕ) (u : f ≡ spelled (layers front)) (v : g ≡ spelled (layers rest)) where
  abbrev type : List Layer
  type = layers front ++ layers rest

  abbrev outcome : Answer (List Layer)
  outcome = delivered (length out) (given type)

  words : spelled type ≡ f ++ g
  words = rw (spelled-append, u, v)

  count : length (spelled type) ≡ length f + length g
  count = rw (words, length-append)

  pub too_long : 48 < length f + length g → (refused 15 0 ≡ told outcome) × (out ≡ over outcome out)
  unfolding delivered
  too_long l =
      let n : 16 < length type = omega (arith, count, spelled-length type) in
      stays outcome 15 0 out (rw (lt-ltb 16 (length type) n))

  module _ (h : length f + length g ≤ 48) where
    few : length type ≤ 16
    few = omega (arith, count, spelled-length type)

    pub too_short : length out < length f + length g → (refused 14 0 ≡ told outcome) × (out ≡ over outcome out)
    unfolding delivered
    too_short l =
        let n : length out < length (spelled type) = omega (arith, count) in
        stays outcome 14 0 out (rw (le-ltb 16 (length type) few, lt-ltb (length out) (length (spelled type)) n))

    pub wrote : (l y : List ℕ) → length f + length g ≤ length out → l ≡ written f out → y ≡ written g (part (length f) l) →
        (given (length f + length g) ≡ told outcome) × (put (length f) l y ≡ over outcome out)
    unfolding delivered told over
    wrote l y r p q =
        let n : length (spelled type) ≤ length out = omega (arith, count) in
        rw (le-ltb 16 (length type) few, le-ltb (length out) (length (spelled type)) n, count, words, q, p)
        (refl, front-first f g out (length f) refl r)
