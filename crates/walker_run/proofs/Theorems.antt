-- What `walk` answers is where the walker arrives, and the place of its refusal 8 is the first step at which it sticks.
-- Assumes nothing.
use mathlib.Core.Path.{◌≡◌, refl, sym, ap}
use mathlib.Core.Bool.{Bool, true, false, cond, false≢true}
use mathlib.Core.List.{List, [], ◌∷◌}
use Prim.Native.Nat.{ℕ, suc, ◌+◌, ◌<◌}
use native.Mathlib.Omega.{arith}
use lib.ListN.{length, take, get_or}
use Rattle.type_numbers.specs.Kind as kind
use Rattle.type_layers.specs.Layers.{Layer, layer, layers}
use Rattle.type_layers.specs.Answer.{Answer, given, nothing, refused, is_given}
use Rattle.type_layers.proofs.Given.{given_is}
use Rattle.type_checks.specs.Check.{check_of}
use Rattle.type_checks.proofs.Refusals.{behind}
use Rattle.symbol_order.specs.Order.{in_order}
use Rattle.symbol_columns.specs.declared.symbol.Symbol.{Symbol}
use Rattle.plan_steps.specs.Steps.{Step, step, steps, steps_answer}
use Rattle.symbol_members.specs.Member.{Stored}
use Rattle.walker_rule.specs.Walker.{Where, at, stuck, act, then, walker, arrives}
use Rattle.symbol_members.specs.Members.{members}
use Rattle.walker_rule.proofs.Where.{at-is, not_stuck}
use Rattle.walker_arrival.specs.Arrived.{addressed}
use Rattle.walker_run.specs.Walked.{unless_stuck, walked_from, and_address, walk_from, walk_ordered, walk_to}

-- where an answer says that the walker is
abbrev where_of : Answer (List Layer) → Where
where_of (given t) = at t
where_of nothing = stuck
where_of (refused n p) = stuck

not-refused : (t : List Layer) (n q : ℕ) → given t ≡ refused n q → ⊥
not-refused t n q e = false≢true (sym (ap is_given e))

place_is : (n m p q : ℕ) (x : Answer (List Layer)) → x ≡ refused n p → x ≡ refused m q → q ≡ p
place_is n m p q x d e = cc

module _ (stored : ℕ → Stored) where
  -- it sticks exactly where the walker does
  pub as-the-walker : (ss : List Step) (t : List Layer) (p : ℕ) → walker stored ss t ≡ where_of (walked_from stored p ss t)
  unfolding walker walked_from
  as-the-walker [] t p = refl
  as-the-walker (s ∷ ss) t p = by-step (act stored s t) (λ u. as-the-walker ss u (p + 1))
    where
      by-step : (w : Where) → ((u : List Layer) → walker stored ss u ≡ where_of (walked_from stored (p + 1) ss u)) →
          then stored w (walker stored ss) ≡ where_of (unless_stuck w p (walked_from stored (p + 1) ss))
      by-step (at u) f = f u
      by-step stuck f = refl

  -- the first step at which it sticks: it takes those before, and that one it cannot take
  pub record FirstStuck (ss : List Step) (t : List Layer) (k : ℕ) : Type 0 where
    pub there : k < length ss
    pub before : List Layer
    pub takes : walker stored (take k ss) t ≡ at before
    pub cannot : act stored (get_or ss k (step 0 0 0 0)) before ≡ stuck

  pub place-first : (ss : List Step) (t : List Layer) (p n q : ℕ) → walked_from stored p ss t ≡ refused n q → (k : ℕ) × ((q ≡ p + k) × FirstStuck ss t k)
  unfolding walked_from walker
  place-first [] t p n q e = absurd (not-refused t n q e)
  place-first (s ∷ ss) t p n q e = by-step (act stored s t) refl e (λ u. place-first ss u (p + 1) n q)
    where
      by-step : (w : Where) → act stored s t ≡ w → unless_stuck w p (walked_from stored (p + 1) ss) ≡ refused n q →
          ((u : List Layer) → walked_from stored (p + 1) ss u ≡ refused n q → (k : ℕ) × ((q ≡ p + 1 + k) × FirstStuck ss u k)) →
          (k : ℕ) × ((q ≡ p + k) × FirstStuck (s ∷ ss) t k)
      by-step (at u) f e g =
          let later = g u e in
          let fs = later.1.1 in
          (suc later.0, (omega (arith, later.1.0), record { there = omega (arith, fs.there); before = fs.before; takes = rw f fs.takes; cannot = fs.cannot }))
      by-step stuck f e g =
          (0, (omega (arith, place_is 8 n p q (refused 8 p) refl e), record { there = omega arith; before = t; takes = refl; cannot = f }))

-- what is given is where the walker arrives
module _ (known ws store : List ℕ) (address : Bool) (table : List Symbol) (u : List Layer) where
  abbrev stored : ℕ → Stored
  stored = members table store

  by-walk : walk_from known ws address table store ≡ given u → arrives stored (steps ws) address (layers known) ≡ at u
  unfolding walk_from arrives
  by-walk e = rw (as-the-walker stored (steps ws) (layers known) 0) (by_answer (walked_from stored 0 (steps ws) (layers known)) e)
    where
      by_answer : (w : Answer (List Layer)) → and_address address w ≡ given u →
          then stored (where_of w) (λ v. at (cond address (layer kind.pointer 0 0 ∷ v) v)) ≡ at u
      by_answer (given t) e = ap at (given_is (addressed address t) u e)
      by_answer nothing e = absurd (false≢true (ap is_given e))
      by_answer (refused n p) e = absurd (false≢true (ap is_given e))

  by_order : walk_ordered known ws address table store ≡ given u → arrives stored (steps ws) address (layers known) ≡ at u
  unfolding walk_ordered
  by_order e = by-test (in_order table store) e
    where
      by-test : (f : Bool) → cond f (walk_from known ws address table store) (refused 12 0) ≡ given u → arrives stored (steps ws) address (layers known) ≡ at u
      by-test true e = by-walk e
      by-test false e = absurd (false≢true (ap is_given e))

  pub walk-arrives : walk_to known ws address table store ≡ given u → arrives stored (steps ws) address (layers known) ≡ at u
  unfolding walk_to
  walk-arrives e = by_order (behind (given u) refl _ (steps_answer 128 ws) (behind (given u) refl _ (check_of known) e))

  -- and where it arrives is what is given, of a type, steps and a table that pass their checks
  to-address : (w : Answer (List Layer)) → then stored (where_of w) (λ v. at (cond address (layer kind.pointer 0 0 ∷ v) v)) ≡ at u → and_address address w ≡ given u
  to-address (given t) e = ap given (at-is (addressed address t) u e)
  to-address nothing e = absurd (not_stuck u e)
  to-address (refused n p) e = absurd (not_stuck u e)

  pub arrives-walk : (i j : ℕ) → check_of known ≡ given i → steps_answer 128 ws ≡ given j → in_order table store ≡ true →
      arrives stored (steps ws) address (layers known) ≡ at u → walk_to known ws address table store ≡ given u
  unfolding walk_to walk_ordered walk_from arrives
  arrives-walk i j e f o a =
      rw (e, f, o) (to-address (walked_from stored 0 (steps ws) (layers known)) (rw (as-the-walker stored (steps ws) (layers known) 0) at a))
