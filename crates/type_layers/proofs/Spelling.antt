-- The words of a run of layers, and the layers of a run of words.
-- Assumes nothing.
use mathlib.Core.Path.{◌≡◌, refl, ap}
use mathlib.Core.List.{List, [], ◌∷◌, ◌++◌}
use Prim.Native.Nat.{ℕ, zero, suc, ◌+◌, ◌*◌, ◌%◌}
use native.Mathlib.Omega.{arith}
use lib.ListN.{length, drop}
use lib.Seq.{drop-drop, drop-nil}
use Rattle.type_layers.specs.Layers.{Layer, layers, inside, spelled}
use Rattle.type_layers.proofs.Words.{inner-layers}

pub spelled-length : (a : List Layer) → length (spelled a) ≡ 3 * length a
unfolding spelled
spelled-length [] = refl
spelled-length (x ∷ a) = omega (arith, spelled-length a)

pub spelled-append : (a b : List Layer) → spelled (a ++ b) ≡ spelled a ++ spelled b
unfolding spelled
spelled-append [] b = refl
spelled-append (x ∷ a) b = rw (spelled-append a b)

pub spelled-layers : (ws : List ℕ) → length ws % 3 ≡ 0 → spelled (layers ws) ≡ ws
unfolding spelled layers
spelled-layers [] h = refl
spelled-layers (k ∷ []) h = absurd (omega (arith, h))
spelled-layers (k ∷ n ∷ []) h = absurd (omega (arith, h))
spelled-layers (k ∷ n ∷ m ∷ ws) h = rw (spelled-layers ws (omega (arith, h)))

pub layers-spelled : (a : List Layer) → layers (spelled a) ≡ a
unfolding spelled layers
layers-spelled [] = refl
layers-spelled (x ∷ a) = ap (λ (l : List Layer). x ∷ l) (layers-spelled a)

drop-inside : (n : ℕ) (a : List Layer) → drop n (inside a) ≡ drop (suc n) a
unfolding inside
drop-inside n [] = drop-nil n
drop-inside n (x ∷ a) = refl

-- the layers of the words from a layer on
pub layers-drop : (n : ℕ) (ws : List ℕ) → layers (drop (n * 3) ws) ≡ drop n (layers ws)
layers-drop zero ws = refl
layers-drop (suc n) ws =
    let e : suc n * 3 ≡ 3 + n * 3 = omega arith in
    rw (e, ← drop-drop (n * 3) 3 ws, layers-drop n (drop 3 ws), inner-layers ws) (drop-inside n (layers ws))
