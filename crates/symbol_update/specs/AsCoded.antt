-- No rule, but what contracts of the code need: what an effect or a refusal is as an answer.
use Rattle.std.specs.Prelude.{Result, Ok, Err}
use Rattle.type_numbers.specs.Effect as effect
use Rattle.type_numbers.specs.Refusal as refusal
use Rattle.type_numbers.specs.declared.effect.Effect.{Effect}
use Rattle.type_layers.specs.declared.answers.Refused.{Refused}
use Rattle.write_answer.specs.declared.answer.Answer.{Answer}
use Rattle.write_answer.specs.Flat.{accepted, not_accepted}

abbrev pub told : Result Effect Refused → Answer
told (Ok e) = accepted (effect.number_of e)
told (Err e) = not_accepted (refusal.number_of e.refusal) e.place
