use Rattle.type_layers.specs.Layers.{layers}
use Rattle.plan_steps.specs.Steps.{steps}
use Rattle.plan_rounds.specs.AsCoded.{stored_in}
use Rattle.plan_rounds.proofs.Going.{Along}
use Rattle.plan_rounds.proofs.rounds.go_along.Given as goal

abbrev pub invariant-loop : goal.invariant-loop
invariant-loop l =
    Along (stored_in l.table) l.question.rounds (layers l.question.known.now) (steps l.question.asked.now) l.plan l.cur l.rest l.counter l.taken
