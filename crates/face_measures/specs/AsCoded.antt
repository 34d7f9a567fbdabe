-- No rule, but what contracts of the code need: an answer whose refusal is as C has it, of any number and at any place.
use Rattle.std.specs.Prelude.{Result, Ok, Err, Option, Some, None}
use Rattle.type_layers.specs.Answer as paper
use Rattle.type_layers.specs.Answer.{given, nothing, refused}
use Rattle.write_answer.specs.declared.answer.Answer.{Answer}

-- A value, or why there is none.
abbrev pub of_told : {A : Type 0} → Result A Answer → paper.Answer A
of_told (Ok v) = given v
of_told (Err e) = refused e.refusal e.value

-- The same, where there may be no value.
abbrev pub of_told_found : {A : Type 0} → Result (Option A) Answer → paper.Answer A
of_told_found (Ok (Some v)) = given v
of_told_found (Ok None) = nothing
of_told_found (Err e) = refused e.refusal e.value
