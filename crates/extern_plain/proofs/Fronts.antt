-- What becomes of a type, in the words that are written.
-- Assumes nothing.
use mathlib.Core.Path.{◌≡◌}
use mathlib.Core.Bool.{Bool, true, false, cond, ◌&&◌, ◌||◌}
use mathlib.Core.List.{List, [], ◌++◌}
use Prim.Native.Nat.{ℕ}
use lib.Dec.{eqb}
use lib.ListN.{drop}
use Rattle.type_numbers.specs.Kind as kind
use Rattle.type_numbers.specs.AsCoded.{words}
use Rattle.type_layers.specs.Layers.{layers, outer}
use Rattle.type_layers.proofs.Words.{inner-layers}
use Rattle.type_numbers.specs.Context.{parameter, returned}
use Rattle.extern_plain.specs.Plain.{fixed_plain}
use borrow.Author.Tests.{ne_eqb}

-- the layers in front and the rest, by the kinds of the two outer layers
pub fronts : (context : ℕ) (ws : List ℕ) → fixed_plain context (layers ws)
    ≡ cond (eqb (outer (layers ws)) kind.arraylike) (layers (words kind.slice 0 0) ++ layers (drop 3 ws))
    (cond (eqb (outer (layers ws)) kind.struct && (eqb context parameter || eqb context returned)) (layers (words kind.view 0 0) ++ layers ws)
    (cond (eqb (outer (layers ws)) kind.pointer && eqb (outer (layers (drop 3 ws))) kind.arraylike) (layers (words kind.slice_pointer 0 0) ++ layers (drop 3 (drop 3 ws)))
    (layers [] ++ layers ws)))
unfolding layers fixed_plain
fronts context ws = rw (inner-layers (drop 3 ws), inner-layers ws)

-- a Pointer to an Arraylike: k is the outer kind, j that of what it points to, v whether the context takes a View
module _ (ws : List ℕ) (context k : ℕ) (e : k ≡ outer (layers ws)) (n : k ≡ kind.arraylike → ⊥) (v : Bool) (w : v ≡ (eqb context parameter || eqb context returned))
    (s : (eqb k kind.struct && v) ≡ false) (l : List ℕ) (j : ℕ) (d : l ≡ drop 3 ws) (o : j ≡ outer (layers l)) where
  pub as-slice-pointer : (front r : List ℕ) → (eqb k kind.pointer && eqb j kind.arraylike) ≡ true → front ≡ words kind.slice_pointer 0 0 → r ≡ drop 3 l →
      layers front ++ layers r ≡ fixed_plain context (layers ws)
  as-slice-pointer front r h f q = rw (f, q, fronts context ws, ← e, ne_eqb k kind.arraylike n, ← w, s, ← d, ← o, h)
