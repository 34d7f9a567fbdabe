-- No rule, but what contracts of the code need: the checks, the plan and the answer of a question as one value, about a
-- table in columns.
use Rattle.std.specs.Prelude.{ℕ}
use Rattle.type_layers.specs.Answer.{Answer}
use Rattle.symbol_columns.specs.Table.{records}
use Rattle.symbol_columns.specs.declared.table.Table.{Table}
use Rattle.plan_report.specs.Plan.{Plan}
use Rattle.plan_rounds.specs.declared.question.Question.{Question}
use Rattle.planner.specs.Plans.{question, planned, plan_answer}

abbrev pub question_of : Question → Answer ℕ
question_of q = question q.known.now q.asked.now q.target.now q.rounds

abbrev pub planned_of : Table → Question → ℕ → ℕ → Answer Plan
planned_of t q room wide = planned (records t) t.store.now q.known.now q.asked.now q.target.now q.level q.rounds room wide

abbrev pub answer_to : Table → Question → ℕ → ℕ → Answer Plan
answer_to t q room wide = plan_answer (records t) t.store.now q.known.now q.asked.now q.target.now q.level q.rounds room wide
