-- The pointer depth of a run of words.
-- Assumes nothing.
use mathlib.Core.Path.{◌≡◌}
use mathlib.Core.Bool.{Bool, true, false, cond}
use mathlib.Core.List.{List, [], ◌∷◌}
use Prim.Native.Nat.{ℕ, ◌+◌, ◌*◌, ◌^◌, ◌≤◌, ◌<◌}
use native.Mathlib.Omega.{arith}
use mir.Syntax.{w64}
use mir.Val.{Fits}
use lib.Dec.{eqb}
use lib.ListN.{length, get_or, length-drop}
use borrow.Author.Tests.{ne_eqb}
use Rattle.type_numbers.specs.Kind as kind
use Rattle.type_layers.specs.Layers.{layers}
use Rattle.type_layers.proofs.Words.{none, more, rest, rest-is}
use Rattle.type_size_and_depth.specs.Depth.{pointer_depth}

module _ (ws : List ℕ) where
  pub depth_none : length ws < 3 → 0 ≡ pointer_depth (layers ws)
  unfolding pointer_depth
  depth_none h = rw (none ws)

  module _ (h : 3 ≤ length ws) where
    pub deeper : (n : ℕ) → get_or ws 0 0 ≡ kind.pointer → n ≡ pointer_depth (layers (rest ws)) → n + 1 ≡ pointer_depth (layers ws)
    unfolding pointer_depth
    deeper n e q = rw (more ws, e, q)

    module _ (e : get_or ws 0 0 ≡ kind.pointer → ⊥) where
      pub one : get_or ws 0 0 ≡ kind.slice_pointer → 1 ≡ pointer_depth (layers ws)
      unfolding pointer_depth
      one f = rw (more ws, f)

      pub stops : (get_or ws 0 0 ≡ kind.slice_pointer → ⊥) → 0 ≡ pointer_depth (layers ws)
      unfolding pointer_depth
      stops f = rw (more ws, ne_eqb (get_or ws 0 0) kind.pointer e, ne_eqb (get_or ws 0 0) kind.slice_pointer f)

pub ruleset counted = (depth_none, deeper, one, stops)

-- each layer that is counted has three words
within : (ws : List ℕ) → pointer_depth (layers ws) * 3 ≤ length ws
unfolding pointer_depth layers
within [] = omega arith
within (k ∷ []) = omega arith
within (k ∷ n ∷ []) = omega arith
within (k ∷ n ∷ m ∷ ws) = by_kind (eqb k kind.pointer) (eqb k kind.slice_pointer) (within ws)
  where
    by_kind : (b d : Bool) → pointer_depth (layers ws) * 3 ≤ length ws →
        cond b (pointer_depth (layers ws) + 1) (cond d 1 0) * 3 ≤ length (k ∷ n ∷ m ∷ ws)
    by_kind true d h = omega arith
    by_kind false true h = omega arith
    by_kind false false h = omega arith

-- so that one more than the depth of the inner type fits
pub one_more : (ws : List ℕ) (n : ℕ) → length ws * 8 < 2 ^ 63 → 3 ≤ length ws → n ≡ pointer_depth (layers (rest ws)) → Fits w64 (n + 1)
one_more ws n l h e =
    let inner : length (rest ws) ≤ length ws = rw (rest-is, length-drop) (omega arith) in
    record { fits = omega (arith, within (rest ws)) }
