-- No rule, but what contracts of the code need: what the code's answer to the coercion question is in the paper's terms.
use Rattle.std.specs.Prelude.{ℕ, Result, Ok, Err}
use Rattle.type_numbers.specs.Refusal.{number_of}
use Rattle.type_layers.specs.Answer.{Answer, given, refused}
use Rattle.type_layers.specs.declared.answers.Refused.{Refused}
use Rattle.relation_coerces.specs.AsCoded.{of_coercion}
use Rattle.relation_coerces.specs.declared.coercion.Coercion.{Coercion}

-- "When an answer is an enum, a definition gives this paper's number and values for each of its cases"
abbrev pub of_coercion_answer : Result Coercion Refused → Answer ℕ
of_coercion_answer (Ok c) = given (of_coercion c)
of_coercion_answer (Err e) = refused (number_of e.refusal) e.place
