-- Where the walker is: at one type, or stuck.
-- Assumes nothing.
use mathlib.Core.Path.{◌≡◌, ap}
use mathlib.Core.Bool.{Bool, true, false, false≢true}
use mathlib.Core.List.{List, []}
use Rattle.type_layers.specs.Layers.{Layer}
use Rattle.walker_rule.specs.Walker.{Where, at, stuck}

-- the type that it is at
abbrev pub type_at : Where → List Layer
type_at (at t) = t
type_at stuck = []

pub at-is : (t u : List Layer) → at t ≡ at u → t ≡ u
at-is t u e = ap type_at e

abbrev stays : Where → Bool
stays (at t) = true
stays stuck = false

pub not_stuck : (t : List Layer) → stuck ≡ at t → ⊥
not_stuck t e = false≢true (ap stays e)
