-- No rule, but what contracts of the code need: the rounds over a table in columns.
use Rattle.std.specs.Prelude.{◌≡◌, List, ℕ}
use Rattle.type_numbers.specs.Refusal.{number_of}
use Rattle.type_numbers.specs.declared.refusal.Refusal.{Refusal}
use Rattle.type_layers.specs.Layers.{Layer, layers}
use Rattle.type_layers.specs.AsCoded.{Whole}
use Rattle.type_layers.specs.Answer.{Answer, given, refused}
use Rattle.symbol_columns.specs.declared.table.Table.{Table}
use Rattle.symbol_members.specs.AsCoded.{member_in}
use Rattle.symbol_members.specs.Member.{Stored}
use Rattle.symbol_members.specs.Members.{of_layers}
use Rattle.plan_steps.specs.Steps.{Step, steps}
use Rattle.plan_settling.specs.Settling.{settle}
use Rattle.plan_report.specs.Plan.{Plan}
use Rattle.plan_report.specs.Report.{delivered}
use Rattle.plan_rounds.specs.Rounds.{Rounds, in_rounds}
use Rattle.plan_rounds.specs.Settled.{settle_rounds, with_settling}
use Rattle.plan_rounds.specs.declared.question.Question.{Question}

-- The words of a member's type, and what that is.
abbrev pub member_of : Table → ℕ → List ℕ
member_of t id = member_in t.columns.now t.count t.store.now id

abbrev pub stored_in : Table → ℕ → Stored
stored_in t id = of_layers (layers (member_of t id))

-- The words of every member's type are whole layers, 16 at most.
abbrev pub AllWhole : Table → Type 0
AllWhole t = (id : ℕ) → Whole (member_of t id)

-- Words are of a type that is given, and whole layers; a refusal is told.
abbrev pub Gives : Answer (List Layer) → List ℕ → Type 0
Gives a ws = (given (layers ws) ≡ a) × Whole ws

abbrev pub Refuses : Answer (List Layer) → Refusal → Type 0
Refuses a e = refused (number_of e) 0 ≡ a

-- The rounds of a question.
abbrev pub rounds_of : Table → Question → Rounds
rounds_of t q = in_rounds (stored_in t) q.rounds (layers q.known.now) (steps q.asked.now)

-- The plan of rounds that ended.
unfoldable pub finished : List Step → ℕ → List Layer → List Layer → ℕ → ℕ → ℕ → Answer Plan
finished ss taken c t n room wide = delivered room wide (with_settling ss taken (settle c t n))

-- The plan of a question: the rounds from its known type along its asked steps.
unfoldable pub plan_in_rounds : Table → Question → ℕ → ℕ → Answer Plan
plan_in_rounds t q room wide =
    delivered room wide (settle_rounds (rounds_of t q) (layers q.target.now) q.level)
