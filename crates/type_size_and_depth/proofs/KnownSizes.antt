-- The known size of a run of words.
-- Assumes nothing.
use mathlib.Core.Path.{◌≡◌}
use mathlib.Core.List.{List}
use Prim.Native.Nat.{ℕ, ◌≤◌, ◌<◌}
use lib.ListN.{length, get_or}
use Rattle.type_layers.specs.Layers.{layers}
use Rattle.type_layers.specs.Answer.{Answer, nothing}
use Rattle.type_layers.proofs.Words.{none, more}
use Rattle.type_size_and_depth.specs.Known.{known_of, known_size}

module _ (ws : List ℕ) where
  pub known_none : length ws < 3 → nothing ≡ known_size (layers ws)
  unfolding known_size
  known_none h = rw (none ws)

  pub known_more : (r : Answer ℕ) → 3 ≤ length ws → r ≡ known_of (get_or ws 0 0) (get_or ws 2 0) → r ≡ known_size (layers ws)
  unfolding known_size
  known_more r h q = rw (more ws) q

pub ruleset known = (known_none, known_more)
