-- No rule, but what contracts of the code need: what each turn of the code is in the rule's terms.
use Rattle.std.specs.Prelude.{Option, Some, None}
use Rattle.plan_turn.specs.declared.turn.Turn as code
use Rattle.plan_turn.specs.declared.turn.Turn.TheVariants as coded
use Rattle.plan_turn.specs.Turn.{Turn, Stuck, Auto, Element, Desliced, Member}

-- What each case of the code is.
unfoldable pub of_turn : code.Turn → Turn
of_turn (coded.Auto k) = Auto k
of_turn (coded.Element m) = Element m 1
of_turn (coded.ElementThrough m) = Element m 2
of_turn (coded.Desliced m) = Desliced m
of_turn coded.Member = Member

-- What the code decides: none where no step fits.
abbrev pub of_decided : Option code.Turn → Turn
of_decided (Some t) = of_turn t
of_decided None = Stuck
