-- What the walker as a function answers of a plan that was given: of its known type, its steps, its flag and its table.
use Rattle.std.specs.Prelude.{◌≡◌, ◌⊎◌, List, ℕ, ◌*◌, ◌≤◌, ◌<◌, take}
use Rattle.type_numbers.specs.Limit as limit
use Rattle.type_numbers.specs.Refusal as refusal
use Rattle.write_answer.specs.declared.answer.Answer.{Answer}
use Rattle.plan_report.specs.declared.report.Report.{Report}

-- The comparison that a caller makes: no refusal, as many words as the report has layers for, and in the walker's output
-- the words that stand in the plan's.
abbrev pub Agrees : Report → List ℕ → Answer → List ℕ → Type 0
Agrees r ty a out = (a.refusal ≡ 0) × (a.value ≡ 3 * r.layers) × (take (3 * r.layers) out ≡ take (3 * r.layers) ty)

-- r is the plan's report, and ty the output that has its type; a is the walker's answer, out its output, of so many words.
pub record Accepts (exception : Type 0) (r : Report) (ty : List ℕ) (a : Answer) (out : List ℕ) (room : ℕ) : Type 0 where
  -- where there is room for the reported type, the answer is that type, or the exception holds
  pub answers : 3 * r.layers ≤ room → Agrees r ty a out ⊎ exception
  -- no refusal but 14, and that for want of room alone: 48 words are enough
  pub only : (a.refusal ≡ 0) ⊎ ((a.refusal ≡ refusal.output_too_short) × (room < limit.type_words))
  -- the exception can be seen: where it holds, the comparison fails
  pub shows : exception → Agrees r ty a out → ⊥
