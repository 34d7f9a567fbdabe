-- The layers in front of the type that is reached.
-- Assumes nothing.
use mathlib.Core.Path.{◌≡◌, refl, sym}
use mathlib.Core.Bool.{Bool, true, false, cond}
use mathlib.Core.List.{List, [], ◌∷◌, ◌++◌}
use Prim.Native.Nat.{ℕ, ◌-◌}
use lib.ListN.{take, drop}
use Rattle.type_numbers.specs.Kind as kind
use Rattle.type_numbers.specs.AsCoded.{words}
use Rattle.type_layers.specs.Layers.{layer, layers, spelled, inner_words}
use Rattle.type_layers.proofs.Words.{inner-layers}
use Rattle.walker_step.specs.AsCoded.{seen}
use Rattle.walker_arrival.specs.Arrived.{addressed}

-- the layers that are wanted are a part of a Pointer and an Arraylike, from the i-th word to the j-th, before what stays
abbrev both : List ℕ
both = spelled (layer kind.pointer 0 0 ∷ layer kind.arraylike 0 0 ∷ [])

pub reached : (address b : Bool) (front : List ℕ) (i j : ℕ) → front ≡ both → i ≡ cond address 0 3 → j ≡ cond b 6 3 → (ws rest : List ℕ) →
    rest ≡ cond b (drop 3 ws) ws → layers (take (j - i) (drop i front)) ++ layers rest ≡ addressed address (seen ws b)
unfolding layers spelled seen
reached address b front i j w p q ws rest e = rw (w, p, q, e) (by_flags address b)
  where
    by_flags : (f g : Bool) → layers (take (cond g 6 3 - cond f 0 3) (drop (cond f 0 3) both)) ++ layers (cond g (drop 3 ws) ws) ≡ addressed f (seen ws g)
    by_flags true true = rw (inner-layers ws)
    by_flags true false = refl
    by_flags false true = rw (inner-layers ws)
    by_flags false false = refl

-- the four arms of the code
module _ (ws : List ℕ) where
  pub as_it_is : addressed false (seen ws false) ≡ layers [] ++ layers ws
  as_it_is = sym (reached false false both 3 3 refl refl refl ws ws refl)

  pub its_address : addressed true (seen ws false) ≡ layers (words kind.pointer 0 0) ++ layers ws
  unfolding spelled
  its_address = sym (reached true false both 0 3 refl refl refl ws ws refl)

  pub desliced : addressed false (seen ws true) ≡ layers (words kind.arraylike 0 0) ++ layers (inner_words ws)
  unfolding spelled
  desliced = sym (reached false true both 3 6 refl refl refl ws (inner_words ws) refl)

  pub address_desliced : addressed true (seen ws true) ≡ layers (spelled (layer kind.pointer 0 0 ∷ layer kind.arraylike 0 0 ∷ [])) ++ layers (inner_words ws)
  unfolding spelled
  address_desliced = sym (reached true true both 0 6 refl refl refl ws (inner_words ws) refl)

pub ruleset fronts = (as_it_is, its_address, desliced, address_desliced)
