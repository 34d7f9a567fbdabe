-- The plain walker at work: it takes the steps, 128 at most, from the known type, then the address where it is asked for.
use Rattle.std.specs.Prelude.{Bool, cond, List, [], ◌∷◌, ℕ, ◌+◌}
use Rattle.type_numbers.specs.Limit as limit
use Rattle.type_numbers.specs.Refusal as refusal
use Rattle.type_layers.specs.Layers.{Layer, layers}
use Rattle.type_layers.specs.Answer.{Answer, given, nothing, refused, next}
use Rattle.type_checks.specs.Check.{check_of}
use Rattle.symbol_columns.specs.declared.symbol.Symbol.{Symbol}
use Rattle.symbol_order.specs.Order.{in_order}
use Rattle.plan_steps.specs.Steps.{Step, steps, steps_answer}
use Rattle.symbol_members.specs.Member.{Stored}
use Rattle.walker_rule.specs.Walker.{Where, at, stuck, act}
use Rattle.symbol_members.specs.Members.{members}
use Rattle.walker_arrival.specs.Arrived.{addressed}

-- "8 with the step as place where it sticks": p is the place of the next step.
abbrev pub unless_stuck : Where → ℕ → (List Layer → Answer (List Layer)) → Answer (List Layer)
unless_stuck (at t) p f = f t
unless_stuck stuck p f = refused refusal.no_step_fits p

unfoldable pub walked_from : (ℕ → Stored) → ℕ → List Step → List Layer → Answer (List Layer)
walked_from stored p [] t = given t
walked_from stored p (s ∷ ss) t = unless_stuck (act stored s t) p (walked_from stored (p + 1) ss)

-- "then the address where address is set"; a refusal stands.
abbrev pub and_address : Bool → Answer (List Layer) → Answer (List Layer)
and_address address (given t) = given (addressed address t)
and_address address nothing = nothing
and_address address (refused n p) = refused n p

unfoldable pub walk_from : List ℕ → List ℕ → Bool → List Symbol → List ℕ → Answer (List Layer)
walk_from known ss address table store =
    and_address address (walked_from (members table store) 0 (steps ss) (layers known))

-- "12 table not in order"
unfoldable pub walk_ordered : List ℕ → List ℕ → Bool → List Symbol → List ℕ → Answer (List Layer)
walk_ordered known ss address table store = cond (in_order table store) (walk_from known ss address table store) (refused refusal.table_not_in_order 0)

-- "Refusals in this order: the known type's 1 to 3, 5 for the steps, 12; 8 ...". "15 for the address", then 14: where it is written (`answer_in`).
unfoldable pub walk_to : List ℕ → List ℕ → Bool → List Symbol → List ℕ → Answer (List Layer)
walk_to known ss address table store =
    next (check_of known) (next (steps_answer limit.walked ss) (walk_ordered known ss address table store))
