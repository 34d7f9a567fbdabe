-- What an answer gives.
-- Assumes nothing.
use mathlib.Core.Path.{◌≡◌, ap}
use mathlib.Core.Bool.{false≢true}
use Prim.Native.Nat.{ℕ}
use Rattle.type_layers.specs.Answer.{given, nothing, refused, is_given}

-- a refusal gives nothing
pub not-given : {A : Type 0} (n p : ℕ) (u : A) → refused n p ≡ given u → ⊥
not-given n p u e = false≢true (ap is_given e)

pub nothing-given : {A : Type 0} (u : A) → nothing ≡ given u → ⊥
nothing-given u e = false≢true (ap is_given e)

pub given_is : {A : Type 0} (x u : A) → given x ≡ given u → x ≡ u
given_is x u e = cc
