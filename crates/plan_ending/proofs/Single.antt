-- Each public contract allows one result: any two that it allows of the same arguments coincide. Of a part that is
-- handed back, the words coincide.
-- Assumes nothing.
use mathlib.Core.Path.{◌≡◌, sym, ◌∙◌}
use mir.Syntax.{Dict}
use contract.Lifetimes.{Lfts}
use denote.RattleType.{RattleType}
use denote.Param.Laws.{Laws, IsCopy}
use denote.Triple.Clauses.{AtExit}
use borrow.Fn.Kinds.{Dens, res_t, ended_of}
use Rattle.std.specs.declared.clone.Clone.{Ghosts}
use Rattle.type_layers.proofs.Single.{Single}
use Rattle.plan_ending.proofs.ending.ending_of.Kinds as ending-of-kinds
use Rattle.plan_ending.proofs.ending.ending_of.Reads as ending-of
use Rattle.plan_ending.proofs.ending.body_of.Kinds as body-of-kinds
use Rattle.plan_ending.proofs.ending.body_of.Reads as body_of

-- whatever stands in a refusal
module _ (E : RattleType) (e : Laws E) (c : IsCopy E) (g : Ghosts E.Denot) (d : Dict) where
  pub ending-of-single : Single 1 (ending-of-kinds.ps E e c) (ending-of-kinds.r E e c) (ending-of.Post E e c g d)
  ending-of-single κs a x y s t p q = p ∙ sym q

  pub body-of-single : (κs : Lfts 2) (a : Dens κs (body-of-kinds.ps E e c)) (x y : (res_t (body-of-kinds.r E e c) κs).Denot)
      (s t : AtExit (ended_of 2 (body-of-kinds.ps E e c) (body-of-kinds.r E e c)) κs) →
      body_of.Post E e c g d κs a x s → body_of.Post E e c g d κs a y t → x.now ≡ y.now
  body-of-single κs a x y s t p q = p ∙ sym q
