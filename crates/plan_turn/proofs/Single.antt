-- The public contract allows one result: any two that it allows of the same arguments coincide.
-- Assumes nothing.
use mathlib.Core.Path.{◌≡◌, refl, sym, ap, ◌∙◌}
use Rattle.std.specs.Prelude.{Option, Some, None, cond, eqb}
use Rattle.type_layers.proofs.Single.{Single}
use Rattle.plan_turn.specs.Turn.{Turn, Stuck, Auto, Element, Desliced, Member}
use Rattle.plan_turn.specs.AsCoded.{of_turn, of_decided}
use Rattle.plan_turn.specs.declared.turn.Turn as code
use Rattle.plan_turn.specs.declared.turn.Turn.TheVariants as coded
use Rattle.plan_turn.proofs.decide_turn.turn_of.Kinds as turn-of-kinds
use Rattle.plan_turn.proofs.decide_turn.turn_of.Reads as turn-of

-- what the code decides, of the rule's turn
abbrev back : Turn → Option code.Turn
back Stuck = None
back (Auto k) = Some (coded.Auto k)
back (Element m l) = cond (eqb l 1) (Some (coded.Element m)) (Some (coded.ElementThrough m))
back (Desliced m) = Some (coded.Desliced m)
back Member = Some coded.Member

is-back : (t : Option code.Turn) → t ≡ back (of_decided t)
unfolding of_turn
is-back None = refl
is-back (Some (coded.Auto k)) = refl
is-back (Some (coded.Element m)) = refl
is-back (Some (coded.ElementThrough m)) = refl
is-back (Some (coded.Desliced m)) = refl
is-back (Some coded.Member) = refl

pub turn-of-single : Single 0 turn-of-kinds.ps turn-of-kinds.r turn-of.Post
turn-of-single κs a x y s t p q = is-back x ∙ ap back (p ∙ sym q) ∙ sym (is-back y)
