use Rattle.std.proofs.Common.{◌≡◌, ◌++◌, replicate}
use Rattle.plan_steps.specs.AsCoded.{of_step}
use Rattle.plan_rounds.proofs.steps.Steps.repeat.Given as goal

abbrev pub invariant-loop : goal.invariant-loop
invariant-loop l = l.self ≡ l.initial.self ++ replicate l.counter (of_step l.step)
