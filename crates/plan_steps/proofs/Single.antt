-- Each public contract allows one outcome: any two that it allows of the same arguments coincide.
-- Assumes nothing.
use mathlib.Core.Path.{◌≡◌, sym, ap, ◌∙◌}
use contract.Lifetimes.{Lfts}
use denote.Triple.Clauses.{AtExit}
use borrow.Fn.Kinds.{Dens, res_t, ended_of}
use Rattle.type_layers.proofs.Apart.{result-apart}
use Rattle.type_layers.proofs.Single.{Single}
use Rattle.plan_steps.specs.Steps as rules
use Rattle.plan_steps.specs.declared.step.Step.{Step}
use Rattle.plan_steps.proofs.step.Step.is_good.Kinds as is-good-kinds
use Rattle.plan_steps.proofs.step.Step.is_good.Reads as is-good
use Rattle.plan_steps.proofs.step.StepFromArrayU644.from.Kinds as from-words-kinds
use Rattle.plan_steps.proofs.step.StepFromArrayU644.from.Reads as from-words
use Rattle.plan_steps.proofs.step.ArrayU644FromStep.from.Kinds as to-words-kinds
use Rattle.plan_steps.proofs.step.ArrayU644FromStep.from.Reads as to-words
use Rattle.plan_steps.proofs.good_steps.check_steps.Kinds as check-steps-kinds
use Rattle.plan_steps.proofs.good_steps.check_steps.Reads as check-steps
use Rattle.plan_steps.proofs.writing.write_step.Kinds.{ps, r}
use Rattle.plan_steps.proofs.writing.write_step.Reads.{Post}

-- the code's step of the rule's
abbrev back : rules.Step → Step
back s = record { kind = s.kind; handle = s.handle; mark = s.mark; number = s.number }

pub is-good-single : Single 0 is-good-kinds.ps is-good-kinds.r is-good.Post
is-good-single κs a x y s t p q = p ∙ sym q

pub from-words-single : Single 0 from-words-kinds.ps from-words-kinds.r from-words.Post
from-words-single κs a x y s t p q = ap back (p ∙ sym q)

pub to-words-single : Single 0 to-words-kinds.ps to-words-kinds.r to-words.Post
to-words-single κs a x y s t p q = p ∙ sym q

pub check-steps-single : Single 1 check-steps-kinds.ps check-steps-kinds.r check-steps.Post
check-steps-single κs a x y s t p q = result-apart x y (p ∙ sym q)

pub write-step-single : (κs : Lfts 1) (a : Dens κs ps) (x y : (res_t r κs).Denot) (s t : AtExit (ended_of 1 ps r) κs) →
    Post κs a x s → Post κs a y t → s.0.now ≡ t.0.now
write-step-single κs a x y s t p q = p ∙ sym q
