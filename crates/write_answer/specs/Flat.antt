-- The paper's answers in the two words that C is handed.
use Rattle.std.specs.Prelude.{Bool, ℕ, Result, ◌≡◌}
use Rattle.type_numbers.specs.Refusal.{number_of}
use Rattle.type_layers.specs.Answer as paper
use Rattle.type_layers.specs.Answer.{given, nothing, refused, of_result, of_verdict}
use Rattle.type_layers.specs.declared.answers.Refused.{Refused}
use Rattle.write_answer.specs.declared.answer.Answer.{Answer}

-- Accepted, with a value.
abbrev pub accepted : ℕ → Answer
accepted v = record { refusal = 0; value = v }

-- "document 01's number; value is its place"
abbrev pub not_accepted : ℕ → ℕ → Answer
not_accepted n p = record { refusal = n; value = p }

-- "accepted; value is the answer"; 0 where there is no such part.
unfoldable pub flat : paper.Answer ℕ → Answer
flat (given v) = accepted v
flat nothing = accepted 0
flat (refused n p) = not_accepted n p

-- Of a refusal: its number and its place.
abbrev pub FlatRefusal : Refused → Answer → Type 0
FlatRefusal e a = a ≡ not_accepted (number_of e.refusal) e.place

-- The answer to a question for a number, and to one for yes or no.
abbrev pub FlatNumber : Result ℕ Refused → Answer → Type 0
FlatNumber r a = a ≡ flat (of_result r)

abbrev pub FlatVerdict : Result Bool Refused → Answer → Type 0
FlatVerdict r a = a ≡ flat (of_verdict r)
