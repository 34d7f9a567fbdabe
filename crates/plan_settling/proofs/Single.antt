-- The public contract allows one result: any two that it allows of the same arguments coincide.
-- Assumes nothing.
use mathlib.Core.Path.{◌≡◌, refl, sym, ap, ◌∙◌}
use mathlib.Core.Bool.{cond}
use mathlib.Core.List.{List}
use Prim.Native.Nat.{ℕ}
use Rattle.std.specs.Prelude.{Result, Ok, Err}
use Rattle.type_numbers.specs.declared.refusal.Refusal.{Refusal}
use Rattle.type_numbers.specs.Refusal.{number_of}
use Rattle.type_numbers.proofs.Refusals.{number_of-apart}
use Rattle.type_layers.specs.Layers.{Layer, layers}
use Rattle.type_layers.specs.Answer.{Answer, given, nothing, refused}
use Rattle.type_layers.proofs.Single.{Single}
use Rattle.plan_settling.specs.Line as line
use Rattle.plan_settling.specs.Line.{Line}
use Rattle.plan_settling.specs.Settling.{Settled, line_of, settle}
use Rattle.plan_settling.specs.AsCoded.{line_by, of_settling, Settles}
use Rattle.plan_settling.specs.declared.settling.Settling.{Settling}
use Rattle.plan_settling.specs.declared.settling.Settling.TheVariants as settling
use Rattle.plan_settling.proofs.settling.settle.Kinds.{ps, r}
use Rattle.plan_settling.proofs.settling.settle.Reads.{Post}

-- the outcome by its name, or by its refusal's number
abbrev named : Result Settling Refusal → Answer Settling
named (Ok s) = given s
named (Err r) = refused (number_of r) 0

named-apart : (x y : Result Settling Refusal) → named x ≡ named y → x ≡ y
named-apart (Ok s) (Ok t) e = cc
named-apart (Ok s) (Err r) e = cc
named-apart (Err r) (Ok s) e = cc
named-apart (Err r) (Err q) e = let n : number_of r ≡ number_of q = cc in ap Err (number_of-apart r q n)

-- the name that a line and what it gives come from
abbrev last : Answer Settled → Answer Settling
last (given s) = given (cond s.address settling.Addressed settling.Dereferenced)
last nothing = nothing
last (refused k p) = refused k p

abbrev outcome : Line → Answer Settled → Answer Settling
outcome line.i a = given settling.Identical
outcome line.ii a = given settling.Viewed
outcome line.iii a = given settling.Coerced
outcome line.iv a = given settling.SlicePointer
outcome line.v a = given settling.PointedTo
outcome line.vi a = given settling.AddressCoerced
outcome line.vii a = last a

module _ (c t : List Layer) (n : ℕ) where
  is-outcome : (z : Result Settling Refusal) → named z ≡ outcome (line_by z) (of_settling z c t n)
  is-outcome (Ok settling.Identical) = refl
  is-outcome (Ok settling.Viewed) = refl
  is-outcome (Ok settling.Coerced) = refl
  is-outcome (Ok settling.SlicePointer) = refl
  is-outcome (Ok settling.PointedTo) = refl
  is-outcome (Ok settling.AddressCoerced) = refl
  is-outcome (Ok settling.Addressed) = refl
  is-outcome (Ok settling.Dereferenced) = refl
  is-outcome (Err r) = refl

  settles-one : (z : Result Settling Refusal) → Settles z c t n → named z ≡ outcome (line_of c t n) (settle c t n)
  settles-one z s = is-outcome z ∙ (λ j. outcome (s.0 j) (s.1 j))

pub settle-single : Single 2 ps r Post
settle-single κs a x y s t p q =
    named-apart x y (settles-one (layers a.0.now) (layers a.1.0.now) a.1.1.0 x p ∙ sym (settles-one (layers a.0.now) (layers a.1.0.now) a.1.1.0 y q))
