-- No rule, but what contracts of the code need: the plan of steps and a body that stand in words.
use Rattle.std.specs.Prelude.{List, ◌++◌, ℕ, replicate}
use Rattle.type_layers.specs.Layers.{layers}
use Rattle.type_layers.specs.Answer.{Answer}
use Rattle.plan_steps.specs.Steps.{steps}
use Rattle.plan_settling.specs.Settling.{pointer}
use Rattle.plan_ending.specs.declared.ending.Ending.{Ending}
use Rattle.plan_report.specs.Plan.{Plan, narrow}

-- The plan of the steps that stand in words, and of the body under its Pointers.
unfoldable pub plan_of_words : List ℕ → ℕ → Ending → List ℕ → Answer Plan
plan_of_words ws taken e body =
    narrow (record {
      steps = steps ws;
      taken = taken;
      type = replicate e.lead pointer ++ layers body;
      address = e.address;
      coerced = e.coerced;
    })
