-- No rule, but what contracts of the code need: what each answer of the code is in the rule's terms.
use Rattle.std.specs.Prelude.{Result, Ok, Err}
use Rattle.type_numbers.specs.Refusal.{number_of}
use Rattle.type_layers.specs.declared.answers.Refused.{Refused}
use Rattle.symbol_get.specs.Got as got'
use Rattle.symbol_get.specs.Got.{Got}
use Rattle.symbol_get.specs.declared.get.Found as coded
use Rattle.symbol_get.specs.declared.get.Found.TheVariants as code

-- What each of the code's answers is.
abbrev pub of_got : Result coded.Found Refused → Got
of_got (Ok code.Absent) = got'.absent
of_got (Ok (code.Typed k)) = got'.typed k
of_got (Ok (code.Poisoned m)) = got'.poisoned m
of_got (Err e) = got'.refused (number_of e.refusal) e.place
