-- What a plan reports: the target, or a type that is then coerced into it, or what line (vii) gives.
use Rattle.std.specs.Prelude.{◌≡◌, true, false, ◌⊎◌, List, ◌∷◌, ◌++◌, ℕ}
use Rattle.type_layers.specs.Layers.{Layer}
use Rattle.type_layers.specs.Answer.{given}
use Rattle.type_size_and_depth.specs.Depth.{pointer_depth}
use Rattle.relation_coerces.specs.Coerces.{coerces, address_coerces}
use Rattle.plan_steps.specs.Steps.{Step}
use Rattle.plan_settling.specs.Line as line
use Rattle.plan_settling.specs.Settling.{pointer, settled, settle_otherwise, line_of}
use Rattle.symbol_members.specs.Member.{Stored}
use Rattle.walker_rule.specs.Walker.{at, walker}
use Rattle.plan_report.specs.Plan.{Plan}

-- By the lines (i), (ii), (iv) and (v) the reported type is the target, and the plan is not coerced.
abbrev pub Target : List Layer → Plan → Type 0
Target target plan = (plan.type ≡ target) × (plan.coerced ≡ false)

-- "c coerces into t: coerced." "c address coerces into t: address, coerced." The type that is reached is reported, or its
-- address.
pub record Coerced (stored : ℕ → Stored) (known target : List Layer) (plan : Plan) : Type 0 where
  pub c : List Layer
  pub ends : walker stored plan.steps known ≡ at c
  pub coerced : plan.coerced ≡ true
  pub into : ((coerces c target ≡ true) × (plan.address ≡ false) × (plan.type ≡ c))
      ⊎ ((address_coerces c target ≡ true) × (plan.address ≡ true) × (plan.type ≡ pointer ∷ c))

-- The plan's first steps lead the walker to a type c at which line (vii) applies, and its further steps, its type and its
-- flags are what that line gives.
pub record Last (stored : ℕ → Stored) (known target : List Layer) (depth : ℕ) (plan : Plan) : Type 0 where
  pub of_rounds : List Step
  pub further : List Step
  pub steps : plan.steps ≡ of_rounds ++ further
  pub c : List Layer
  pub ends : walker stored of_rounds known ≡ at c
  pub applies : line_of c target depth ≡ line.vii
  pub gives : settle_otherwise c depth (pointer_depth c) ≡ given (settled further plan.type plan.address plan.coerced)

abbrev pub Reported : (ℕ → Stored) → List Layer → List Layer → ℕ → Plan → Type 0
Reported stored known target depth plan =
    Target target plan ⊎ (Coerced stored known target plan ⊎ Last stored known target depth plan)
