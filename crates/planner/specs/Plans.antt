-- Plans, on one page: from the checks of a question down to the rounds and the settling, and up to what an entry answers.
-- "Types are checked 1, 2 (all layers), 3, left before right; then 5, 12, 13, 4 (known, target) ...; then the walk (8, 11, 4
-- for a member's type), the settling, 15, 14."
use Rattle.std.specs.Prelude.{cond, not, List, ℕ, ltb}
use Rattle.type_numbers.specs.Refusal as refusal
use Rattle.type_layers.specs.Layers.{Layer, layers}
use Rattle.type_layers.specs.Answer.{Answer, refused, next}
use Rattle.type_wellformed.specs.WellFormed.{well_formed}
use Rattle.plan_steps.specs.Steps.{Step, steps, steps_answer}
use Rattle.symbol_members.specs.Member.{Stored}
use Rattle.plan_report.specs.Plan.{Plan}
use Rattle.plan_rounds.specs.Rounds.{in_rounds}
use Rattle.plan_rounds.specs.Settled.{settle_rounds}
use Rattle.type_numbers.specs.Limit as limit
use Rattle.type_checks.specs.Check.{check_of}
use Rattle.symbol_columns.specs.declared.symbol.Symbol.{Symbol}
use Rattle.symbol_order.specs.Order.{in_order}
use Rattle.symbol_members.specs.Members.{members}
use Rattle.plan_report.specs.Report.{delivered}

-- THE CHECKS of the types, the asked steps and the rounds.
-- "At most 32 asked steps, 0 to 64 rounds"; "5 bad ... step, step count or rounds"
abbrev pub limits : List ℕ → ℕ → Answer ℕ
limits asked rounds = cond (ltb limit.rounds rounds) (refused refusal.bad_request 0) (steps_answer limit.asked asked)

abbrev pub question : List ℕ → List ℕ → List ℕ → ℕ → Answer ℕ
question known asked target rounds = next (check_of known) (next (check_of target) (limits asked rounds))

-- THE PLAN of types that passed: the rounds (`in_rounds`, plan_rounds), which give 8, 11 and the 4 of a member; then the settling
-- (`settle`, plan_settling), which gives 9 and 10; then 15 (`narrow`, plan_report).
-- "Known, target and member types must be well formed, else 4": known, then target.
unfoldable pub plan_of : (ℕ → Stored) → List Layer → List Step → List Layer → ℕ → ℕ → Answer Plan
plan_of stored known asked target depth rounds =
    cond (not (well_formed known)) (refused refusal.ill_formed 0)
    (cond (not (well_formed target)) (refused refusal.ill_formed 0)
    (settle_rounds (in_rounds stored rounds known asked) target depth))

-- THE ANSWER of an entry: 12 before the plan, 14 behind it (`delivered`, plan_report). What is told and written of it is
-- `Delivers` (plan_report): the report, the steps, the type.
-- "12 table not in order", then the plan
unfoldable pub planned : List Symbol → List ℕ → List ℕ → List ℕ → List ℕ → ℕ → ℕ → ℕ → ℕ → Answer Plan
planned table store known asked target depth rounds room wide =
    cond (in_order table store)
    (delivered room wide (plan_of (members table store) (layers known) (steps asked) (layers target) depth rounds))
    (refused refusal.table_not_in_order 0)

unfoldable pub plan_answer : List Symbol → List ℕ → List ℕ → List ℕ → List ℕ → ℕ → ℕ → ℕ → ℕ → Answer Plan
plan_answer table store known asked target depth rounds room wide =
    next (question known asked target rounds) (planned table store known asked target depth rounds room wide)
