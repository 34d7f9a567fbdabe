-- The stored size of a run of words.
-- Assumes nothing.
use mathlib.Core.Path.{◌≡◌}
use mathlib.Core.Bool.{true, false}
use mathlib.Core.List.{List}
use Prim.Native.Nat.{ℕ, ◌*◌, ◌≤◌, ◌<◌}
use lib.ListN.{length, get_or}
use borrow.Author.Tests.{ne_eqb}
use Rattle.type_numbers.specs.Kind as kind
use Rattle.type_layers.specs.Layers.{layers}
use Rattle.type_layers.specs.Answer.{given, nothing}
use Rattle.type_layers.proofs.Words.{none, more, rest}
use Rattle.type_size_and_depth.specs.Known.{known_size}
use Rattle.type_stored_size.specs.StoredSize.{has_one_width, has_two_widths, times, stored_size}

-- the outer layer, for pointers of any width
module _ (w : ℕ) (ws : List ℕ) where
  pub of_none : length ws < 3 → stored_size w (layers ws) ≡ nothing
  unfolding stored_size
  of_none h = rw (none ws)

  module _ (h : 3 ≤ length ws) where
    pub of_array : get_or ws 0 0 ≡ kind.array → stored_size w (layers ws) ≡ times (get_or ws 2 0) (stored_size w (layers (rest ws)))
    unfolding stored_size
    of_array e = rw (more ws, e)

    module _ (e : get_or ws 0 0 ≡ kind.array → ⊥) where
      pub of_one : has_one_width (get_or ws 0 0) ≡ true → stored_size w (layers ws) ≡ given w
      unfolding stored_size
      of_one f = rw (more ws, ne_eqb (get_or ws 0 0) kind.array e, f)

      module _ (f : has_one_width (get_or ws 0 0) ≡ false) where
        pub of_two : has_two_widths (get_or ws 0 0) ≡ true → stored_size w (layers ws) ≡ given (2 * w)
        unfolding stored_size
        of_two g = rw (more ws, ne_eqb (get_or ws 0 0) kind.array e, f, g)

        pub of_known : has_two_widths (get_or ws 0 0) ≡ false → stored_size w (layers ws) ≡ known_size (layers ws)
        unfolding stored_size known_size
        of_known g = rw (more ws, ne_eqb (get_or ws 0 0) kind.array e, f, g)

pub ruleset measured = (of_none, of_array, of_one, of_two, of_known)
