-- "Each round, leaving the walk as soon as no asked step is left".
use Rattle.std.specs.Prelude.{cond, List, [], ◌∷◌, ◌++◌, ℕ, zero, suc, ◌+◌, drop}
use Rattle.type_numbers.specs.Refusal as refusal
use Rattle.type_layers.specs.Layers.{Layer, outer, inside}
use Rattle.type_layers.specs.Answer.{Answer, given, nothing, refused}
use Rattle.type_wellformed.specs.WellFormed.{well_formed}
use Rattle.type_numbers.specs.StepKind as of-step
use Rattle.type_numbers.specs.Mark as of-mark
use Rattle.plan_steps.specs.Steps.{Step, step}
use Rattle.plan_turn.specs.Turn.{Turn, Stuck, Auto, Element, Desliced, Member}
use Rattle.plan_turn.specs.Round.{turn}
use Rattle.symbol_members.specs.Member.{Stored, typed, absent}

-- How the rounds end: with the steps so far, how many asked steps were taken, and the current type; or with a refusal's number.
pub data Rounds : Type 0 where
  ended : List Step → ℕ → List Layer → Rounds
  stopped : ℕ → Rounds

-- What a round adds to the plan: its steps, and how many asked steps it takes.
abbrev pub steps_of : Step → Turn → List Step
steps_of a Stuck = []
steps_of a (Auto k) = step k 0 0 0 ∷ []
steps_of a (Element m l) = step of-step.element a.handle m 0 ∷ []
steps_of a (Desliced m) = step of-step.autodeslice 0 m 0 ∷ step of-step.element a.handle of-mark.no 0 ∷ []
steps_of a Member = a ∷ []

abbrev pub taken_by : Turn → ℕ
taken_by Stuck = 0
taken_by (Auto k) = 0
taken_by (Element m l) = 1
taken_by (Desliced m) = 1
taken_by Member = 1

-- "11 member absent or poisoned"; "4 for a member's type"
abbrev pub member_type : Stored → Answer (List Layer)
member_type absent = refused refusal.no_member 0
member_type (typed t) = cond (well_formed t) (given t) (refused refusal.ill_formed 0)

-- What a round decides of the current type and the first asked step.
abbrev pub turn_at : List Layer → Step → Turn
turn_at t a = turn (outer t) (outer (inside t)) a.kind a.mark

module _ (stored : ℕ → Stored) where
  -- Where a round goes on.
  abbrev pub goes : List Layer → Step → Turn → Answer (List Layer)
  goes t a Stuck = refused refusal.no_step_fits 0
  goes t a (Auto k) = given (inside t)
  goes t a (Element m l) = given (drop l t)
  goes t a (Desliced m) = given (inside t)
  goes t a Member = member_type (stored a.handle)

  abbrev pub prepend : List Step → ℕ → Rounds → Rounds
  prepend ss k (ended us j c) = ended (ss ++ us) (k + j) c
  prepend ss k (stopped n) = stopped n

  abbrev pub onward : List Step → ℕ → Answer (List Layer) → (List Layer → Rounds) → Rounds
  onward ss k (given u) f = prepend ss k (f u)
  onward ss k nothing f = stopped refusal.no_step_fits
  onward ss k (refused n p) f = stopped n

  -- "Rounds used up: remaining asked steps are dropped and the count taken is reported."
  unfoldable pub in_rounds : ℕ → List Layer → List Step → Rounds
  in_rounds zero t q = ended [] 0 t
  in_rounds (suc n) t [] = ended [] 0 t
  in_rounds (suc n) t (a ∷ q) =
      let r = turn_at t a in
      onward (steps_of a r) (taken_by r) (goes t a r) (λ u. in_rounds n u (drop (taken_by r) (a ∷ q)))
