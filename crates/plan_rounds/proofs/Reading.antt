-- What a round reads of words, and where it goes on.
-- Assumes nothing.
use mathlib.Core.Path.{◌≡◌, refl}
use mathlib.Core.Bool.{true, false}
use mathlib.Core.List.{List, [], ◌∷◌}
use Prim.Native.Nat.{ℕ, ◌≤◌, ◌<◌}
use lib.ListN.{length, drop}
use Rattle.type_numbers.specs.Refusal as refusal
use Rattle.type_layers.specs.Layers.{Layer, layers, inside}
use Rattle.type_layers.specs.Answer.{given, refused}
use Rattle.type_layers.proofs.Words.{none, more, inner-layers, inner-whole}
use Rattle.type_wellformed.specs.WellFormed.{well_formed}
use Rattle.symbol_members.specs.Members.{of_layers}
use Rattle.plan_rounds.specs.Rounds.{member_type}

-- the layers inside
pub one_in : (t : List Layer) → drop 1 t ≡ inside t
unfolding inside
one_in [] = refl
one_in (x ∷ t) = refl

pub two_in : (t : List Layer) → drop 2 t ≡ inside (inside t)
unfolding inside
two_in [] = refl
two_in (x ∷ []) = refl
two_in (x ∷ y ∷ t) = refl

pub ruleset inner = (one_in, two_in, inner-layers, inner-whole)

-- the member's type, by what the code tested
module _ (ws : List ℕ) where
  pub no_member : length ws < 3 → refused refusal.no_member 0 ≡ member_type (of_layers (layers ws))
  no_member h = rw (none ws h)

  module _ (h : 3 ≤ length ws) where
    pub ill_formed : false ≡ well_formed (layers ws) → refused refusal.ill_formed 0 ≡ member_type (of_layers (layers ws))
    ill_formed e = rw (more ws h) (rw (← more ws h, ← e))

    pub formed : true ≡ well_formed (layers ws) → given (layers ws) ≡ member_type (of_layers (layers ws))
    formed e = rw (more ws h) (rw (← more ws h, ← e))

pub ruleset member = (no_member, ill_formed, formed)
