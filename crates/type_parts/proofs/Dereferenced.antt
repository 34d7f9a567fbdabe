-- What is inside the Pointers and Views that stand outside everything else, by what the code tested.
-- Assumes nothing.
use mathlib.Core.Path.{◌≡◌}
use mathlib.Core.Bool.{Bool, true, false}
use mathlib.Core.List.{List}
use Prim.Native.Nat.{ℕ, ◌+◌, ◌*◌, ◌≤◌, ◌<◌}
use native.Mathlib.Omega.{arith}
use lib.ListN.{length, drop, get_or}
use lib.Seq.{drop-drop}
use Rattle.type_layers.specs.Layers.{layers, is_reference}
use Rattle.type_parts.specs.Parts.{references, fully_dereferenced}
use Rattle.type_layers.proofs.Words.{rest, rest-is, none, more-drop}

module _ (ws : List ℕ) where
  pub plain_none : length ws < 3 → ws ≡ fully_dereferenced ws
  unfolding fully_dereferenced references
  plain_none h = rw (none ws)

  module _ (b : Bool) (h : 3 ≤ length ws) (f : b ≡ is_reference (get_or ws 0 0)) where
    pub plain : b ≡ false → ws ≡ fully_dereferenced ws
    unfolding fully_dereferenced references
    plain e = rw (more-drop ws, ← f, e)

    pub through : (l : List ℕ) → b ≡ true → l ≡ fully_dereferenced (rest ws) → l ≡ fully_dereferenced ws
    unfolding fully_dereferenced references
    through l e q =
        let n : (references (layers (drop 3 ws)) + 1) * 3 ≡ 3 + references (layers (drop 3 ws)) * 3 = omega arith in
        rw (more-drop ws, ← f, e, n, ← drop-drop) (rw rest-is at q)

pub ruleset dereferenced = (plain_none, plain, through)
