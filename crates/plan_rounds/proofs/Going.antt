-- The rounds' loop: what it keeps, its ways on and out.
-- Assumes nothing.
use mathlib.Core.Path.{◌≡◌, refl, sym}
use mathlib.Core.List.{List, [], ◌∷◌, ◌++◌, append_assoc, append-nil}
use mathlib.Core.Logic.{◌⊎◌, ⊎_elim}
use Prim.Native.Nat.{ℕ, zero, suc, ◌+◌, ◌*◌, ◌-◌, ◌≤◌, ◌<◌}
use native.Mathlib.Nat.{add_assoc, add-zero, zero-add, sub-zero}
use native.Mathlib.Omega.{arith}
use lib.ListN.{length, drop, length-append}
use Rattle.type_layers.specs.Layers.{Layer, layers}
use Rattle.type_layers.specs.AsCoded.{Whole}
use Rattle.type_layers.specs.Answer.{given, refused}
use Rattle.type_layers.proofs.Words.{part, part-is}
use Rattle.plan_steps.specs.Steps.{Step, steps}
use Rattle.plan_steps.proofs.Words.{steps-none, steps-more}
use Rattle.plan_steps.specs.AsCoded.{step_at}
use Rattle.plan_turn.specs.Turn.{Turn, Stuck, Auto, Element, Desliced, Member}
use Rattle.symbol_members.specs.Member.{Stored}
use Rattle.plan_rounds.specs.Rounds.{Rounds, ended, stopped, steps_of, taken_by, goes, turn_at, prepend, in_rounds}

pub steps-few : (a : Step) (t : Turn) → length (steps_of a t) ≤ 2
steps-few a Stuck = omega arith
steps-few a (Auto k) = omega arith
steps-few a (Element m l) = omega arith
steps-few a (Desliced m) = omega arith
steps-few a Member = omega arith

pub took-few : (t : Turn) → taken_by t ≤ 1
took-few Stuck = omega arith
took-few (Auto k) = omega arith
took-few (Element m l) = omega arith
took-few (Desliced m) = omega arith
took-few Member = omega arith

module _ (stored : ℕ → Stored) where
  prepend-prepend : (a b : List Step) (j k : ℕ) (w : Rounds) → prepend stored a j (prepend stored b k w) ≡ prepend stored (a ++ b) (j + k) w
  prepend-prepend a b j k (ended us m c) = simp (append_assoc, add_assoc)
  prepend-prepend a b j k (stopped n) = refl

  prepend-none : (w : Rounds) → prepend stored [] 0 w ≡ w
  prepend-none (ended us m c) = rw zero-add
  prepend-none (stopped n) = refl

  rounds-none : (n : ℕ) (t : List Layer) (q : List Step) → q ≡ [] → in_rounds stored n t q ≡ ended [] 0 t
  unfolding in_rounds
  rounds-none zero t q e = refl
  rounds-none (suc n) t q e = rw e refl

  rounds-out : (t : List Layer) (q : List Step) → in_rounds stored 0 t q ≡ ended [] 0 t
  unfolding in_rounds
  rounds-out t q = refl

  rounds-more : (n : ℕ) (t : List Layer) (a : Step) (q : List Step) (u : List Layer) → goes stored t a (turn_at t a) ≡ given u →
      in_rounds stored (suc n) t (a ∷ q) ≡ prepend stored (steps_of a (turn_at t a)) (taken_by (turn_at t a)) (in_rounds stored n u (drop (taken_by (turn_at t a)) (a ∷ q)))
  unfolding in_rounds
  rounds-more n t a q u g = rw g refl

  rounds-stop : (n : ℕ) (t : List Layer) (a : Step) (q : List Step) (e p : ℕ) → goes stored t a (turn_at t a) ≡ refused e p → in_rounds stored (suc n) t (a ∷ q) ≡ stopped e
  unfolding in_rounds
  rounds-stop n t a q e p g = rw g refl

  -- what the loop keeps: the rounds from the start are the steps so far before the rounds from here
  pub record Along (rounds : ℕ) (known : List Layer) (asked : List Step) (ss : List Step) (cur rest : List ℕ) (i taken : ℕ) : Type 0 where
    pub same : in_rounds stored rounds known asked ≡ prepend stored ss taken (in_rounds stored (rounds - i) (layers cur) (steps rest))
    pub few : length ss ≤ 2 * i
    pub least : taken ≤ i
    pub whole : Whole cur

  pub start : (rounds : ℕ) (known asked : List ℕ) → Whole known → Along rounds (layers known) (steps asked) [] known asked 0 0
  start rounds known asked w =
      record { same = rw (sub-zero, prepend-none (in_rounds stored rounds (layers known) (steps asked))); few = omega arith; least = omega arith; whole = w }

  module _ (rounds : ℕ) (known : List Layer) (asked ss : List Step) (cur rest : List ℕ) (i taken : ℕ) (so : Along rounds known asked ss cur rest i taken) where
    -- left: by the rounds, or by the asked steps
    pub ends : (rounds ≤ i) ⊎ (length rest < 4) → in_rounds stored rounds known asked ≡ ended ss taken (layers cur)
    ends out =
        let gone : in_rounds stored (rounds - i) (layers cur) (steps rest) ≡ ended [] 0 (layers cur) =
        ⊎_elim (λ (h : rounds ≤ i). let z : rounds - i ≡ 0 = omega arith in rw z (rounds-out (layers cur) (steps rest)))
        (λ (h : length rest < 4). rounds-none (rounds - i) (layers cur) (steps rest) (steps-none rest h)) out in
        rw (so.same, gone, append-nil, add-zero) refl

    -- one round
    module _ (lt : i < rounds) (more : 4 ≤ length rest) (a : Step) (is : a ≡ step_at rest) (t : Turn) (turned : t ≡ turn_at (layers cur) a) where
      left : rounds - i ≡ suc (rounds - (i + 1))
      left = omega arith

      pub stops : (e p : ℕ) → refused e p ≡ goes stored (layers cur) a t → in_rounds stored rounds known asked ≡ stopped e
      stops e p g =
          rw (so.same, left, steps-more rest more, ← is, rounds-stop (rounds - (i + 1)) (layers cur) a (steps (drop 4 rest)) e p (rw turned at (sym g))) refl

      module _ (next : List ℕ) (g : given (layers next) ≡ goes stored (layers cur) a t) (w : Whole next) (ss' : List Step) (es : ss' ≡ ss ++ steps_of a t) where
        turns : (rest' : List ℕ) (taken' : ℕ) → taken' ≡ taken + taken_by t → steps rest' ≡ drop (taken_by t) (steps rest) → Along rounds known asked ss' next rest' (i + 1) taken'
        turns rest' taken' et er =
            record {
              same =
                  rw (so.same, left, steps-more rest more, ← is, rounds-more (rounds - (i + 1)) (layers cur) a (steps (drop 4 rest)) (layers next) (rw turned at (sym g)), prepend-prepend, ← turned, es, et, er, steps-more rest more, ← is) refl;
              few = rw (es, length-append) (omega (arith, so.few, steps-few a t));
              least = omega (arith, so.least, took-few t, et);
              whole = w;
            }

        pub took : 1 ≡ taken_by t → (rest' : List ℕ) → rest' ≡ part rest 4 → (taken' : ℕ) → taken' ≡ taken + 1 → Along rounds known asked ss' next rest' (i + 1) taken'
        took k rest' er taken' et = turns rest' taken' (rw (← k) et) (rw (er, part-is rest 4, ← k, steps-more rest more) refl)

        pub kept : 0 ≡ taken_by t → (rest' : List ℕ) → rest' ≡ rest → (taken' : ℕ) → taken' ≡ taken → Along rounds known asked ss' next rest' (i + 1) taken'
        kept k rest' er taken' et = turns rest' taken' (rw (← k, add-zero) et) (rw (er, ← k) refl)
