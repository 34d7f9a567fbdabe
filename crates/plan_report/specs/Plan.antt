-- A plan.
use Rattle.std.specs.Prelude.{Bool, cond, List, ℕ, ltb, length}
use Rattle.type_numbers.specs.Limit as limit
use Rattle.type_numbers.specs.Refusal as refusal
use Rattle.type_layers.specs.Layers.{Layer}
use Rattle.type_layers.specs.Answer.{Answer, given, refused}
use Rattle.plan_steps.specs.Steps.{Step}

pub record Plan : Type 0 where
  pub steps : List Step
  pub taken : ℕ
  pub type : List Layer
  pub address : Bool
  pub coerced : Bool

-- "15 result over 16 layers"
abbrev pub narrow : Plan → Answer Plan
narrow p = cond (ltb limit.layers (length p.type)) (refused refusal.too_many_layers 0) (given p)
