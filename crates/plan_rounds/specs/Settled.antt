-- The plan of the rounds: it is settled where they ended.
use Rattle.std.specs.Prelude.{List, ◌++◌, ℕ}
use Rattle.type_layers.specs.Layers.{Layer}
use Rattle.type_layers.specs.Answer.{Answer, given, nothing, refused}
use Rattle.plan_steps.specs.Steps.{Step}
use Rattle.plan_settling.specs.Settling.{Settled, settle}
use Rattle.plan_report.specs.Plan.{Plan, narrow}
use Rattle.plan_rounds.specs.Rounds.{Rounds, ended, stopped}

abbrev pub with_settling : List Step → ℕ → Answer Settled → Answer Plan
with_settling ss k (given s) =
    narrow (record { steps = ss ++ s.steps; taken = k; type = s.type; address = s.address; coerced = s.coerced })
with_settling ss k nothing = nothing
with_settling ss k (refused n p) = refused n p

-- "then the walk (8, 11, 4 for a member's type), the settling, 15"
abbrev pub settle_rounds : Rounds → List Layer → ℕ → Answer Plan
settle_rounds (ended ss k c) t n = with_settling ss k (settle c t n)
settle_rounds (stopped number) t n = refused number 0
