-- A plan as it is told and written. There are two outputs, steps and type; where one is too short, neither is touched.
use Rattle.std.specs.Prelude.{◌≡◌, false, cond, ◌||◌, List, ℕ, ◌*◌, ltb, length, take, Result, Ok, Err}
use Rattle.type_numbers.specs.Refusal as refusal
use Rattle.type_numbers.specs.Refusal.{number_of}
use Rattle.type_layers.specs.Layers.{layers, spelled}
use Rattle.type_layers.specs.Answer.{Answer, given, nothing, refused, of_result}
use Rattle.type_layers.specs.declared.answers.Refused.{Refused}
use Rattle.write_words.specs.Written.{written}
use Rattle.plan_steps.specs.Steps.{steps, step_words}
use Rattle.plan_report.specs.declared.report.Report.{Report}
use Rattle.plan_report.specs.Plan.{Plan}

-- "14 output too short for this result"
unfoldable pub delivered : ℕ → ℕ → Answer Plan → Answer Plan
delivered steps type (given p) =
    cond (ltb steps (length (step_words p.steps)) || ltb type (length (spelled p.type))) (refused refusal.output_too_short 0) (given p)
delivered steps type nothing = nothing
delivered steps type (refused n q) = refused n q

-- "Where it is refused, all fields but the first two are 0."
abbrev pub not_given : ℕ → ℕ → Report
not_given n q = record { refusal = n; value = q; steps = 0; taken = 0; layers = 0; address = false; coerced = false }

unfoldable pub told : Answer Plan → Report
told (given p) =
    record {
      refusal = 0;
      value = 0;
      steps = length p.steps;
      taken = p.taken;
      layers = length p.type;
      address = p.address;
      coerced = p.coerced;
    }
told nothing = not_given 0 0
told (refused n q) = not_given n q

-- "A result is written from the output's first word; the rest is kept."
unfoldable pub steps_over : Answer Plan → List ℕ → List ℕ
steps_over (given p) b = written (step_words p.steps) b
steps_over nothing b = b
steps_over (refused n q) b = b

unfoldable pub type_over : Answer Plan → List ℕ → List ℕ
type_over (given p) b = written (spelled p.type) b
type_over nothing b = b
type_over (refused n q) b = b

-- What is handed out for an answer: the report r, and the outputs b and c, which hold b' and c' then.
abbrev pub Hands : Answer Plan → Report → List ℕ → List ℕ → List ℕ → List ℕ → Type 0
Hands a r b b' c c' = (r ≡ told a) × ((b' ≡ steps_over a b) × (c' ≡ type_over a c))

-- The same for an answer that asks how long the outputs are.
abbrev pub Delivers : (ℕ → ℕ → Answer Plan) → Report → List ℕ → List ℕ → List ℕ → List ℕ → Type 0
Delivers answer r b b' c c' = Hands (answer (length b) (length c)) r b b' c c'

-- The same, where the report of a plan that is not given is not made yet.
abbrev pub report_of : Answer Plan → Answer Report
report_of (given p) = given (told (given p))
report_of nothing = nothing
report_of (refused n q) = refused n q

abbrev pub HandsResult : Answer Plan → Result Report Refused → List ℕ → List ℕ → List ℕ → List ℕ → Type 0
HandsResult a r b b' c c' = (of_result r ≡ report_of a) × ((b' ≡ steps_over a b) × (c' ≡ type_over a c))

abbrev pub DeliversResult : (ℕ → ℕ → Answer Plan) → Result Report Refused → List ℕ → List ℕ → List ℕ → List ℕ → Type 0
DeliversResult answer r b b' c c' = HandsResult (answer (length b) (length c)) r b b' c c'

-- The report itself, for C.
abbrev pub Reports : Result Report Refused → Report → Type 0
Reports (Ok r) s = s ≡ r
Reports (Err e) s = s ≡ not_given (number_of e.refusal) e.place

-- The plan that stands in a report and in the two outputs: so many steps, and so many layers, from the first words on.
abbrev pub plan_read : Report → List ℕ → List ℕ → Plan
plan_read r b c =
    record {
      steps = steps (take (4 * r.steps) b);
      taken = r.taken;
      type = layers (take (3 * r.layers) c);
      address = r.address;
      coerced = r.coerced;
    }
