-- What rounds that have ended tell: the walker goes their steps from the known type to the current one; the asked steps
-- among them are the first ones that were asked, in order; they are all of them, or the rounds were used up; each step is
-- one; and they are few.
-- Assumes nothing.
use mathlib.Core.Path.{◌≡◌, refl, sym, subst, ◌∙◌}
use mathlib.Core.Bool.{Bool, true, false, cond}
use mathlib.Core.Logic.{◌⊎◌, inl, inr, ⊎_elim}
use mathlib.Core.List.{List, [], ◌∷◌, ◌++◌, map, map-append}
use Prim.Native.Nat.{ℕ, zero, suc, ◌+◌, ◌≤◌}
use native.Mathlib.Omega.{arith}
use lib.Dec.{eqb, leb}
use lib.ListN.{length, take, drop, length-drop, length-append}
use lib.Seq.{take-add}
use Rattle.type_layers.specs.Layers.{Layer}
use Rattle.type_layers.specs.Answer.{Answer, given, nothing, refused}
use Rattle.type_numbers.specs.StepKind as of-step
use Rattle.plan_steps.specs.Steps.{Step, good_step, good_steps}
use Rattle.plan_steps.proofs.Words.{good-append}
use Rattle.type_layers.proofs.Decide.{both}
use Rattle.symbol_members.specs.Member.{Stored}
use Rattle.walker_rule.specs.Walker.{Where, at, stuck, act, then, walker}
use Rattle.plan_rounds.specs.Rounds.{Rounds, ended, stopped, steps_of, taken_by, goes, turn_at, prepend, onward, in_rounds}
use Rattle.plan_turn.specs.Turn.{Turn, Stuck, Auto, Element, Desliced, Member}
use Rattle.plan_rounds.proofs.Going.{took-few}
use Rattle.planner.specs.Demand.{asked, unmarked, rounds}
use Rattle.planner.proofs.Leads.{leads, takes, turns-once, steps-good}

pub asked-append : (ss us : List Step) → asked (ss ++ us) ≡ asked ss ++ asked us
unfolding asked
asked-append [] us = refl
asked-append (s ∷ ss) us = by_kind (leb s.kind of-step.member) (asked-append ss us)
  where
    by_kind : (f : Bool) → asked (ss ++ us) ≡ asked ss ++ asked us →
        cond f (unmarked s ∷ asked (ss ++ us)) (asked (ss ++ us)) ≡ cond f (unmarked s ∷ asked ss) (asked ss) ++ asked us
    by_kind true i = rw i
    by_kind false i = i

rounds-append : (ss us : List Step) → rounds (ss ++ us) ≡ rounds ss + rounds us
unfolding rounds
rounds-append [] us = omega arith
rounds-append (s ∷ ss) us = by_kind (eqb s.kind of-step.autodeslice) (rounds-append ss us)
  where
    by_kind : (f : Bool) → rounds (ss ++ us) ≡ rounds ss + rounds us →
        cond f (rounds (ss ++ us)) (rounds (ss ++ us) + 1) ≡ cond f (rounds ss) (rounds ss + 1) + rounds us
    by_kind true i = i
    by_kind false i = omega (arith, i)

good-drop : (k : ℕ) (q : List Step) → good_steps q ≡ true → good_steps (drop k q) ≡ true
unfolding good_steps
good-drop zero q e = e
good-drop (suc k) [] e = refl
good-drop (suc k) (a ∷ q) e = good-drop k q (both (good_step a) (good_steps q) e).1

good-first : (a : Step) (q : List Step) → good_steps (a ∷ q) ≡ true → good_step a ≡ true
unfolding good_steps
good-first a q e = (both (good_step a) (good_steps q) e).0

-- a round adds one step, and one more at most where it takes an asked one
one-or-two : (a : Step) (t : Turn) → length (steps_of a t) ≤ 1 + taken_by t
one-or-two a Stuck = omega arith
one-or-two a (Auto k) = omega arith
one-or-two a (Element m l) = omega arith
one-or-two a (Desliced m) = omega arith
one-or-two a Member = omega arith

module _ (stored : ℕ → Stored) where
  -- what holds where rounds leave off, and of a round before rounds of which it holds, holds of all rounds that end
  module _ (P : ℕ → List Layer → List Step → List Step → ℕ → List Layer → Type 0)
      (out : (t : List Layer) (q : List Step) → P 0 t q [] 0 t)
      (done : (n : ℕ) (t : List Layer) → P (suc n) t [] [] 0 t)
      (more : (n : ℕ) (t : List Layer) (a : Step) (q : List Step) (u : List Layer) (us : List Step) (j : ℕ) (c : List Layer) →
      goes stored t a (turn_at t a) ≡ given u → P n u (drop (taken_by (turn_at t a)) (a ∷ q)) us j c →
      P (suc n) t (a ∷ q) (steps_of a (turn_at t a) ++ us) (taken_by (turn_at t a) + j) c) where
    abbrev Holds : ℕ → List Layer → List Step → Rounds → Type 0
    Holds n t q (ended ss k c) = P n t q ss k c
    Holds n t q (stopped number) = Unit {0}

    module _ (n : ℕ) (t : List Layer) (a : Step) (q : List Step) where
      abbrev r : Turn
      r = turn_at t a

      before : (u : List Layer) → goes stored t a r ≡ given u → (w : Rounds) → Holds n u (drop (taken_by r) (a ∷ q)) w →
          Holds (suc n) t (a ∷ q) (prepend stored (steps_of a r) (taken_by r) w)
      before u g (ended us j c) h = more n t a q u us j c g h
      before u g (stopped number) h = tt

      round : (g : Answer (List Layer)) → goes stored t a r ≡ g → (f : List Layer → Rounds) →
          ((u : List Layer) → Holds n u (drop (taken_by r) (a ∷ q)) (f u)) → Holds (suc n) t (a ∷ q) (onward stored (steps_of a r) (taken_by r) g f)
      round (given u) g f h = before u g (f u) (h u)
      round nothing g f h = tt
      round (refused number p) g f h = tt

    holds : (n : ℕ) (t : List Layer) (q : List Step) → Holds n t q (in_rounds stored n t q)
    unfolding in_rounds
    holds zero t q = out t q
    holds (suc n) t [] = done n t
    holds (suc n) t (a ∷ q) =
        round n t a q (goes stored t a (turn_at t a)) refl (λ u. in_rounds stored n u (drop (taken_by (turn_at t a)) (a ∷ q)))
        (λ u. holds n u (drop (taken_by (turn_at t a)) (a ∷ q)))

    pub every-rounds : (n : ℕ) (t : List Layer) (q ss : List Step) (k : ℕ) (c : List Layer) → in_rounds stored n t q ≡ ended ss k c → P n t q ss k c
    every-rounds n t q ss k c e = subst (Holds n t q) e (holds n t q)

  append-on : (w : Where) (ss us : List Step) → ((t : List Layer) → walker stored (ss ++ us) t ≡ then stored (walker stored ss t) (walker stored us)) →
      then stored w (walker stored (ss ++ us)) ≡ then stored (then stored w (walker stored ss)) (walker stored us)
  append-on (at t) ss us h = h t
  append-on stuck ss us h = refl

  -- the walker takes steps after steps
  pub walker-append : (ss us : List Step) (t : List Layer) → walker stored (ss ++ us) t ≡ then stored (walker stored ss t) (walker stored us)
  unfolding walker
  walker-append [] us t = refl
  walker-append (s ∷ ss) us t = append-on (act stored s t) ss us (walker-append ss us)

  module _ (n : ℕ) (t : List Layer) (q ss : List Step) (k : ℕ) (c : List Layer) (e : in_rounds stored n t q ≡ ended ss k c) where
    -- the walker goes the steps of the rounds from their type to the current one
    pub walks : walker stored ss t ≡ at c
    unfolding walker
    walks =
        every-rounds (λ n t q ss k c. walker stored ss t ≡ at c) (λ t q. refl) (λ n t. refl)
        (λ n t a q u us j c g h. rw (walker-append (steps_of a (turn_at t a)) us t, leads stored t a u g) h) n t q ss k c e

    -- "the element and member steps are, an element's endless mark aside, the asked ones in order from the first"
    pub in_order : asked ss ≡ map unmarked (take k q)
    unfolding asked
    in_order =
        every-rounds (λ n t q ss k c. asked ss ≡ map unmarked (take k q)) (λ t q. refl) (λ n t. refl)
        (λ n t a q u us j c g h.
        asked-append (steps_of a (turn_at t a)) us
        ∙ rw (takes stored t a q u g, h, take-add (taken_by (turn_at t a)) j (a ∷ q))
        (sym (map-append unmarked (take (taken_by (turn_at t a)) (a ∷ q)) (take j (drop (taken_by (turn_at t a)) (a ∷ q))))))
        n t q ss k c e

    -- "all of them unless the round limit stopped the walk"
    pub all-taken : (k ≡ length q) ⊎ (rounds ss ≡ n)
    unfolding rounds
    all-taken =
        every-rounds (λ n t q ss k c. (k ≡ length q) ⊎ (rounds ss ≡ n)) (λ t q. inr refl) (λ n t. inl refl)
        (λ n t a q u us j c g h.
        ⊎_elim
        (λ (i : j ≡ length (drop (taken_by (turn_at t a)) (a ∷ q))).
        inl (omega (arith, i, length-drop (taken_by (turn_at t a)) (a ∷ q), took-few (turn_at t a))))
        (λ (i : rounds us ≡ n). inr (rounds-append (steps_of a (turn_at t a)) us ∙ rw (turns-once stored t a u g, i) (omega arith))) h)
        n t q ss k c e

    -- there are no more rounds than allowed
    pub no_longer : rounds ss ≤ n
    unfolding rounds
    no_longer =
        every-rounds (λ n t q ss k c. rounds ss ≤ n) (λ t q. omega arith) (λ n t. omega arith)
        (λ n t a q u us j c g h. omega (arith, h, rounds-append (steps_of a (turn_at t a)) us, turns-once stored t a u g)) n t q ss k c e

    -- no more are counted as taken than were asked
    pub no_more : k ≤ length q
    no_more =
        every-rounds (λ n t q ss k c. k ≤ length q) (λ t q. omega arith) (λ n t. omega arith)
        (λ n t a q u us j c g h. omega (arith, h, length-drop (taken_by (turn_at t a)) (a ∷ q), took-few (turn_at t a))) n t q ss k c e

    -- each step of the rounds is one, where each asked one is
    pub all-good : good_steps q ≡ true → good_steps ss ≡ true
    unfolding good_steps
    all-good =
        every-rounds (λ n t q ss k c. good_steps q ≡ true → good_steps ss ≡ true) (λ t q g. refl) (λ n t g. refl)
        (λ n t a q u us j c g h i.
        good-append (steps_of a (turn_at t a)) us ∙ rw (steps-good stored t a (good-first a q i), h (good-drop (taken_by (turn_at t a)) (a ∷ q) i)) refl)
        n t q ss k c e

    -- the rounds have at most one step each, and one more for each asked one that they take
    pub few-steps : length ss ≤ n + k
    few-steps =
        every-rounds (λ n t q ss k c. length ss ≤ n + k) (λ t q. omega arith) (λ n t. omega arith)
        (λ n t a q u us j c g h.
        omega (arith, h, length-append (steps_of a (turn_at t a)) us, one-or-two a (turn_at t a))) n t q ss k c e
