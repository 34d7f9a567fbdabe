-- What one round does: its steps lead the walker where the round goes on, the asked steps among them are those that it
-- takes, and it adds good steps.
-- Assumes nothing.
use mathlib.Core.Path.{◌≡◌, refl, sym, ap, ◌∙◌}
use mathlib.Core.Bool.{Bool, true, false, cond, ◌&&◌}
use mathlib.Core.List.{List, ◌∷◌, map}
use Prim.Native.Nat.{ℕ}
use lib.Dec.{eqb, leb}
use lib.ListN.{take, drop}
use Rattle.type_layers.specs.Layers.{Layer, outer, inside}
use Rattle.type_layers.specs.Answer.{given, refused}
use Rattle.type_wellformed.specs.WellFormed.{well_formed}
use Rattle.type_numbers.specs.StepKind as of-step
use Rattle.plan_steps.specs.Steps.{Step, is_handle, good_step, good_steps}
use Rattle.plan_turn.specs.Turn.{Turn}
use Rattle.type_layers.proofs.Decide.{both}
use Rattle.type_layers.proofs.Given.{not-given, given_is}
use Rattle.plan_turn.proofs.Cases.{cases}
use Rattle.symbol_members.specs.Member.{Stored, typed, absent}
use Rattle.walker_rule.specs.Walker.{at, act, walker}
use Rattle.plan_rounds.proofs.Reading.{one_in, two_in}
use Rattle.plan_rounds.specs.Rounds.{steps_of, taken_by, member_type, goes, turn_at}
use Rattle.planner.specs.Demand.{asked, unmarked, rounds}

pub reached : (m : Stored) (u : List Layer) → member_type m ≡ given u → m ≡ typed u
reached absent u g = absurd (not-given 11 0 u g)
reached (typed t) u g = by_form (well_formed t) g
  where
    by_form : (f : Bool) → cond f (given t) (refused 4 0) ≡ given u → typed t ≡ typed u
    by_form true g = ap typed (given_is t u g)
    by_form false g = absurd (not-given 4 0 u g)

-- of an Element that is a step, the handle is one, and so is the mark
element-good : (a : Step) → a.kind ≡ of-step.element → good_step a ≡ true → (is_handle a.handle ≡ true) × (leb a.mark 2 ≡ true)
unfolding good_step
element-good a e g =
    let h : (is_handle a.handle && leb a.mark 2 && eqb a.number 0) ≡ true = rw e at g in
    both (is_handle a.handle) (leb a.mark 2) (both (is_handle a.handle && leb a.mark 2) (eqb a.number 0) h).0

module _ (stored : ℕ → Stored) (t : List Layer) (a : Step) where
  abbrev Leads : Turn → Type 0
  Leads r = (u : List Layer) → goes stored t a r ≡ given u → walker stored (steps_of a r) t ≡ at u

  pub leads : Leads (turn_at t a)
  unfolding walker act outer inside
  leads =
      cases (outer t) (outer (inside t)) a.kind a.mark Leads
      (λ u g. absurd (not-given 8 0 u g))
      (λ e u g. rw e (ap at (given_is (inside t) u g)))
      (λ e u g. rw e (ap at (given_is (inside t) u g)))
      (λ e f g h u k. rw (e, f, g) (ap at (sym (two_in t) ∙ given_is (drop 2 t) u k)))
      (λ m w e f u g. rw e (ap at (sym (one_in t) ∙ given_is (drop 1 t) u g)))
      (λ e f u g. rw e (ap at (given_is (inside t) u g)))
      (λ e f u g. rw e (ap at (given_is (inside t) u g)))
      (λ e f u g. rw (f, e, reached (stored a.handle) u g))

  -- the asked steps of a round are those that it takes
  pub takes : (q : List Step) (u : List Layer) → goes stored t a (turn_at t a) ≡ given u →
      asked (steps_of a (turn_at t a)) ≡ map unmarked (take (taken_by (turn_at t a)) (a ∷ q))
  unfolding asked
  takes q u =
      cases (outer t) (outer (inside t)) a.kind a.mark
      (λ r. goes stored t a r ≡ given u → asked (steps_of a r) ≡ map unmarked (take (taken_by r) (a ∷ q)))
      (λ g. refl) (λ e g. refl) (λ e g. refl) (λ d e f h g. rw h) (λ m w e f g. rw f) (λ e f g. rw f) (λ e f g. rw f) (λ e f g. rw f)

  -- a round that goes on is one round
  pub turns-once : (u : List Layer) → goes stored t a (turn_at t a) ≡ given u → rounds (steps_of a (turn_at t a)) ≡ 1
  unfolding rounds
  turns-once u =
      cases (outer t) (outer (inside t)) a.kind a.mark (λ r. goes stored t a r ≡ given u → rounds (steps_of a r) ≡ 1)
      (λ g. absurd (not-given 8 0 u g)) (λ e g. refl) (λ e g. refl) (λ d e f h g. refl) (λ m w e f g. refl) (λ e f g. refl) (λ e f g. refl) (λ e f g. rw f)

  -- the steps of a round are steps where the asked one is
  pub steps-good : good_step a ≡ true → good_steps (steps_of a (turn_at t a)) ≡ true
  unfolding good_step good_steps
  steps-good =
      cases (outer t) (outer (inside t)) a.kind a.mark (λ r. good_step a ≡ true → good_steps (steps_of a r) ≡ true)
      (λ g. refl) (λ e g. refl) (λ e g. refl)
      (λ d e f h g. rw ((element-good a h g).0, (element-good a h g).1) refl)
      (λ m w e f g. rw ((element-good a f g).0, w) refl)
      (λ e f g. rw (element-good a f g).0 refl)
      (λ e f g. rw (element-good a f g).0 refl)
      (λ e f g. rw g refl)
