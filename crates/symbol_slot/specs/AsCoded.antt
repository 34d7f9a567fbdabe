-- No rule, but what contracts of the code need: what each way of the code is in the rule's terms.
use Rattle.std.specs.Prelude.{Result, Ok, Err}
use Rattle.type_numbers.specs.Refusal.{number_of}
use Rattle.type_layers.specs.declared.answers.Refused.{Refused}
use Rattle.symbol_slot.specs.Way as way
use Rattle.symbol_slot.specs.Way.{Way}
use Rattle.symbol_slot.specs.declared.slot.Way as coded
use Rattle.symbol_slot.specs.declared.slot.Way.TheVariants as code

-- What each of the code's ways is.
abbrev pub of_way : Result coded.Way Refused → Way
of_way (Ok (code.Found k)) = way.found k
of_way (Ok (code.Free k)) = way.free k
of_way (Err e) = way.refused (number_of e.refusal) e.place
