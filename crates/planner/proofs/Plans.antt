-- What holds of all rounds from a well-formed type that end and are settled, holds of every plan that is given.
-- Assumes nothing.
use mathlib.Core.Path.{◌≡◌, refl, subst}
use mathlib.Core.Bool.{Bool, true, false, cond, not}
use mathlib.Core.List.{List, ◌++◌}
use Prim.Native.Nat.{ℕ, ◌≤◌}
use lib.Dec.{ltb}
use lib.ListN.{length}
use borrow.Author.Tests.{ltb-false}
use Rattle.type_layers.specs.Layers.{Layer}
use Rattle.type_layers.specs.Answer.{Answer, given, nothing, refused}
use Rattle.type_layers.proofs.Given.{not-given, nothing-given, given_is}
use Rattle.type_wellformed.specs.WellFormed.{well_formed}
use Rattle.plan_steps.specs.Steps.{Step}
use Rattle.plan_settling.specs.Settling.{Settled, settle}
use Rattle.symbol_members.specs.Member.{Stored}
use Rattle.plan_rounds.specs.Rounds.{Rounds, ended, stopped, in_rounds}
use Rattle.plan_rounds.specs.Settled.{with_settling, settle_rounds}
use Rattle.plan_report.specs.Plan.{Plan}
use Rattle.planner.specs.Plans.{plan_of}

-- the plan of the rounds' steps and a settling
abbrev pub planned : List Step → ℕ → Settled → Plan
planned ss k s = record { steps = ss ++ s.steps; taken = k; type = s.type; address = s.address; coerced = s.coerced }

module _ (stored : ℕ → Stored) (known : List Layer) (q : List Step) (target : List Layer) (depth limit : ℕ) (P : Plan → Type 0)
    (each : well_formed known ≡ true → (ss : List Step) (k : ℕ) (c : List Layer) → in_rounds stored limit known q ≡ ended ss k c →
    (s : Settled) → settle c target depth ≡ given s → length s.type ≤ 16 → P (planned ss k s))
    (plan : Plan) where
  by_width : (p : Plan) (f : Bool) → ltb 16 (length p.type) ≡ f → cond f (refused 15 0) (given p) ≡ given plan → (length p.type ≤ 16 → P p) → P plan
  by_width p true e g h = absurd (not-given 15 0 plan g)
  by_width p false e g h = subst P (given_is p plan g) (h (ltb-false 16 (length p.type) e))

  by-settling : (ss : List Step) (k : ℕ) (a : Answer Settled) → with_settling ss k a ≡ given plan →
      ((s : Settled) → a ≡ given s → length s.type ≤ 16 → P (planned ss k s)) → P plan
  by-settling ss k (given s) g h = by_width (planned ss k s) (ltb 16 (length s.type)) refl g (h s refl)
  by-settling ss k nothing g h = absurd (nothing-given plan g)
  by-settling ss k (refused n p) g h = absurd (not-given n p plan g)

  by-rounds : (w : Rounds) → in_rounds stored limit known q ≡ w → well_formed known ≡ true → settle_rounds w target depth ≡ given plan → P plan
  by-rounds (ended ss k c) e f g = by-settling ss k (settle c target depth) g (each f ss k c e)
  by-rounds (stopped n) e f g = absurd (not-given n 0 plan g)

  by-forms : (f h : Bool) → well_formed known ≡ f →
      cond (not f) (refused 4 0) (cond (not h) (refused 4 0) (settle_rounds (in_rounds stored limit known q) target depth)) ≡ given plan → P plan
  by-forms true true e g = by-rounds (in_rounds stored limit known q) refl e g
  by-forms true false e g = absurd (not-given 4 0 plan g)
  by-forms false h e g = absurd (not-given 4 0 plan g)

  pub every-plan : plan_of stored known q target depth limit ≡ given plan → P plan
  unfolding plan_of
  every-plan g = by-forms (well_formed known) (well_formed target) refl g
