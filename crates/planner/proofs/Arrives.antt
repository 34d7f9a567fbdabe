-- The third demand holds of every plan that is given; and what such a plan reports.
-- Assumes nothing.
use mathlib.Core.Path.{◌≡◌, refl, sym, ◌∙◌}
use mathlib.Core.Bool.{Bool, true, false≢true}
use mathlib.Core.Logic.{inl, inr, ⊎_elim}
use mathlib.Core.List.{List, [], ◌∷◌, ◌++◌, append-nil}
use Prim.Native.Nat.{ℕ, ◌+◌, ◌≤◌}
use native.Mathlib.Omega.{arith}
use lib.Dec.{eqb}
use lib.ListN.{length, length-append}
use borrow.Author.Tests.{eqb-true}
use Rattle.type_numbers.specs.Kind as kind
use Rattle.type_layers.specs.Layers.{Layer, outer, inside}
use Rattle.type_layers.specs.Answer.{given}
use Rattle.type_layers.proofs.Decide.{both}
use Rattle.type_checks.specs.Check.{good_layer}
use Rattle.type_checks.proofs.Accepted.{good_layers}
use Rattle.type_wellformed.specs.WellFormed.{well_formed}
use Rattle.relation_equals.specs.Equals.{identical}
use Rattle.relation_equals.proofs.Theorems.{identical-equal}
use Rattle.plan_steps.specs.Steps.{Step, good_steps}
use Rattle.plan_steps.proofs.Words.{good-append}
use Rattle.plan_settling.specs.Settling.{Settled, pointer, settle}
use Rattle.plan_settling.proofs.Lines.{lines}
use Rattle.symbol_members.specs.Member.{Stored, typed}
use Rattle.walker_rule.specs.Walker.{at, walker, arrives}
use Rattle.walker_rule.proofs.Where.{at-is}
use Rattle.plan_rounds.specs.Rounds.{ended, in_rounds}
use Rattle.plan_rounds.proofs.Finishing.{depth-few}
use Rattle.plan_report.specs.Plan.{Plan}
use Rattle.planner.specs.Plans.{plan_of}
use Rattle.planner.specs.Demand.{Exception, Hidden, Demand}
use Rattle.planner.specs.Reported.{Reported}
use Rattle.planner.proofs.Rounds.{asked-append, walker-append, walks, in_order, all-taken, no_longer, no_more, all-good, few-steps}
use Rattle.planner.proofs.Sound.{Passing, Sound, rounds-sound}
use Rattle.planner.proofs.Settles.{Unstepped, exact, settles, must-hide, asks_nothing, adds-good, adds-few}
use Rattle.planner.proofs.Plans.{planned, every-plan}

module _ (stored : ℕ → Stored) (members : (id : ℕ) (t : List Layer) → stored id ≡ typed t → Passing t)
    (known : List Layer) (passing : Passing known) (q : List Step) (good : good_steps q ≡ true) (target : List Layer) (depth limit : ℕ) where
  module _ (formed : well_formed known ≡ true) (ss : List Step) (k : ℕ) (c : List Layer) (e : in_rounds stored limit known q ≡ ended ss k c) where
    sound : Sound c
    sound = rounds-sound stored members limit known q ss k c e (record { formed = formed; passing = passing })

    module _ (s : Settled) (f : settle c target depth ≡ given s) where
      along : (us : List Step) (a : Bool) → arrives stored (ss ++ us) a known ≡ arrives stored us a c
      unfolding arrives
      along us a = rw (walker-append stored ss us known, walks stored limit known q ss k c e) refl

      hidden : Unstepped stored c target depth s → Hidden stored known target depth (planned ss k s)
      hidden x = record {
        holds = record { c = c; ends = rw (x.is, append-nil) (walks stored limit known q ss k c e); level = x.level; view = x.view; last = x.last };
        type = rw x.is;
        plain = rw x.is;
      }

      -- the rounds end on one type
      excepted : Exception stored known target depth ss → Hidden stored known target depth (planned ss k s)
      excepted x =
          let is : x.c ≡ c = at-is x.c c (sym x.ends ∙ walks stored limit known q ss k c e) in
          hidden (must-hide stored c target depth sound s f x.level (rw is at x.view) (rw is at x.last))

      meets : Demand stored known q target depth limit (planned ss k s)
      meets = record {
        order = asked-append ss s.steps ∙ rw (in_order stored limit known q ss k c e, asks_nothing c target depth s f, append-nil);
        few = no_more stored limit known q ss k c e;
        of_rounds = ss;
        further = s.steps;
        parts = refl;
        unasked = asks_nothing c target depth s f;
        within = no_longer stored limit known q ss k c e;
        all = all-taken stored limit known q ss k c e;
        good = good-append ss s.steps ∙ rw (all-good stored limit known q ss k c e good, adds-good c target depth s f) refl;
        there =
            ⊎_elim (λ l. inl (along s.steps s.address ∙ l)) (λ x. inr (hidden x)) (settles stored c target depth sound s f);
        except = excepted;
      }

      on-view : Unstepped stored c target depth s → arrives stored (ss ++ s.steps) s.address known ≡ at c
      unfolding arrives walker
      on-view x = along s.steps s.address ∙ rw x.is refl

      narrow : length s.type ≤ 16 → (u : List Layer) → arrives stored (ss ++ s.steps) s.address known ≡ at u → length u ≤ 16
      narrow w u there =
          ⊎_elim
          (λ l. let is : s.type ≡ u = at-is s.type u (sym (along s.steps s.address ∙ l) ∙ there) in rw (← is) w)
          (λ x. let is : c ≡ u = at-is c u (sym (on-view x) ∙ there) in rw (← is) sound.passing.few)
          (settles stored c target depth sound s f)

      -- a plan has at most one step for each round, one for each asked step, and 17 of the settling
      short : length (ss ++ s.steps) ≤ limit + length q + 17
      short =
          omega (arith, length-append ss s.steps, few-steps stored limit known q ss k c e, no_more stored limit known q ss k c e, adds-few c target depth s f, depth-few c, sound.passing.few)

  -- THE THEOREM
  pub demand : (plan : Plan) → plan_of stored known q target depth limit ≡ given plan → Demand stored known q target depth limit plan
  demand = every-plan stored known q target depth limit (Demand stored known q target depth limit) (λ formed ss k c e s f w. meets formed ss k c e s f)

  pub few-in-all : (plan : Plan) → plan_of stored known q target depth limit ≡ given plan → length plan.steps ≤ limit + length q + 17
  few-in-all =
      every-plan stored known q target depth limit (λ plan. length plan.steps ≤ limit + length q + 17) (λ formed ss k c e s f w. short formed ss k c e s f)

  -- the walker arrives at a type of at most 16 layers, also where the exception holds
  pub arrives-few : (plan : Plan) → plan_of stored known q target depth limit ≡ given plan →
      (u : List Layer) → arrives stored plan.steps plan.address known ≡ at u → length u ≤ 16
  arrives-few =
      every-plan stored known q target depth limit (λ plan. (u : List Layer) → arrives stored plan.steps plan.address known ≡ at u → length u ≤ 16)
      (λ formed ss k c e s f w. narrow formed ss k c e s f w)

-- what is reported
module _ (target : List Layer) (good : good_layers target ≡ true) where
  points : (c t : List Layer) → good_layers t ≡ true → eqb (outer t) kind.pointer ≡ true → identical (inside t) c ≡ true → pointer ∷ c ≡ t
  unfolding outer inside good_layers
  points c [] g e f = absurd (false≢true e)
  points c (x ∷ a) g e f =
      rw (exact x (both (good_layer x) (good_layers a) g).0 (eqb-true x.kind kind.pointer e), identical-equal a c f) refl

  module _ (stored : ℕ → Stored) (known : List Layer) (q : List Step) (depth limit : ℕ) where
    reports : (ss : List Step) (k : ℕ) (c : List Layer) → walker stored ss known ≡ at c → (s : Settled) → settle c target depth ≡ given s →
        Reported stored known target depth (planned ss k s)
    reports ss k c w s f =
        lines c target depth (λ s. Reported stored known target depth (planned ss k s)) (λ e. inl (identical-equal c target e, refl)) (λ e f. inl (refl, refl))
        (λ e. inr (inl (record { c = c; ends = rw append-nil w; coerced = refl; into = inl (e, refl, refl) })))
        (λ e f. inl (points c target good e f, refl))
        (λ e. inr (inl (record { c = c; ends = rw append-nil w; coerced = refl; into = inr (e, refl, refl) })))
        (λ is s g. inr (inr (record { of_rounds = ss; further = s.steps; steps = refl; c = c; ends = w; applies = is; gives = g }))) s f

    pub reported : (plan : Plan) → plan_of stored known q target depth limit ≡ given plan → Reported stored known target depth plan
    reported =
        every-plan stored known q target depth limit (Reported stored known target depth)
        (λ formed ss k c e s f w. reports ss k c (walks stored limit known q ss k c e) s f)
