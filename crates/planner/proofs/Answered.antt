-- A report without a refusal is that of a plan: there is always an answer, and no refusal is 0.
-- Assumes nothing.
use mathlib.Core.Path.{◌≡◌, refl, sym, ap, ◌∙◌}
use mathlib.Core.Bool.{Bool, true, false, cond, not, false≢true, ◌&&◌, ◌||◌}
use mathlib.Core.List.{List, [], ◌∷◌}
use Prim.Native.Nat.{ℕ, zero, suc, ◌+◌, ◌/◌, ◌%◌}
use lib.Dec.{eqb, leb, ltb}
use lib.ListN.{length, drop}
use Rattle.type_numbers.specs.Kind as kind
use Rattle.type_layers.specs.Layers.{Layer, layers, outer}
use Rattle.type_layers.specs.Answer.{Answer, given, nothing, refused, next}
use Rattle.type_checks.specs.Check.{Place, at, nowhere, bad_count, bad_layer, misplaced, unless, check_of}
use Rattle.type_wellformed.specs.WellFormed.{well_formed}
use Rattle.type_size_and_depth.specs.Depth.{pointer_depth}
use Rattle.symbol_columns.specs.declared.symbol.Symbol.{Symbol}
use Rattle.symbol_order.specs.Order.{in_order}
use Rattle.plan_steps.specs.Steps.{Step, steps, good_steps, step_words, steps_answer}
use Rattle.plan_turn.specs.Turn.{Turn, Stuck, Auto, Element, Desliced, Member}
use Rattle.plan_settling.specs.Line as line
use Rattle.plan_settling.specs.Line.{Line}
use Rattle.plan_settling.specs.Settling.{Settled, settle_otherwise, line_of, settle_by, settle}
use Rattle.symbol_members.specs.Member.{Stored, typed, absent}
use Rattle.symbol_members.specs.Members.{members}
use Rattle.plan_rounds.specs.Rounds.{Rounds, ended, stopped, steps_of, taken_by, member_type, goes, turn_at, onward, in_rounds}
use Rattle.plan_report.specs.Plan.{Plan}
use Rattle.plan_rounds.specs.Settled.{with_settling, settle_rounds}
use Rattle.planner.specs.Plans.{plan_of, question, planned, plan_answer}
use Rattle.plan_report.specs.Report.{delivered, told}

abbrev tells : {A : Type 0} → Answer A → Bool
tells (given x) = true
tells nothing = false
tells (refused n p) = not (eqb n 0)

either : {A : Type 0} (b : Bool) (x y : Answer A) → tells x ≡ true → tells y ≡ true → tells (cond b x y) ≡ true
either true x y e f = e
either false x y e f = f

then : {A B : Type 0} (c : Answer A) (d : Answer B) → tells c ≡ true → tells d ≡ true → tells (next c d) ≡ true
then (given x) d e f = f
then nothing d e f = f
then (refused n p) d e f = e

-- the question
at_place : (x : Place) (n : ℕ) (c : Answer ℕ) → not (eqb n 0) ≡ true → tells c ≡ true → tells (unless x n c) ≡ true
at_place (at p) n c e f = e
at_place nowhere n c e f = f

check-tells : (ws : List ℕ) → tells (check_of ws) ≡ true
unfolding check_of
check-tells ws =
    either (bad_count (length ws)) _ _ refl (at_place (bad_layer 0 (layers ws)) 2 _ refl (at_place (misplaced 0 (layers ws)) 3 _ refl refl))

steps-tell : (most : ℕ) (ws : List ℕ) → tells (steps_answer most ws) ≡ true
unfolding steps_answer
steps-tell most ws = either (eqb (length ws % 4) 0 && leb (length ws / 4) most && good_steps (steps ws)) _ _ refl refl

question-tells : (known asked target : List ℕ) (rounds : ℕ) → tells (question known asked target rounds) ≡ true
question-tells known asked target rounds =
    then (check_of known) _ (check-tells known)
    (then (check_of target) _ (check-tells target) (either (ltb 64 rounds) _ _ refl (steps-tell 32 asked)))

-- the rounds
abbrev stops : Rounds → Bool
stops (ended ss k c) = true
stops (stopped n) = not (eqb n 0)

module _ (stored : ℕ → Stored) where
  member-tells : (s : Stored) → tells (member_type s) ≡ true
  member-tells absent = refl
  member-tells (typed t) = either (well_formed t) _ _ refl refl

  goes-tells : (t : List Layer) (a : Step) (r : Turn) → tells (goes stored t a r) ≡ true
  goes-tells t a Stuck = refl
  goes-tells t a (Auto k) = refl
  goes-tells t a (Element m l) = refl
  goes-tells t a (Desliced m) = refl
  goes-tells t a Member = member-tells (stored a.handle)

  onward_stops : (ss : List Step) (k : ℕ) (x : Answer (List Layer)) (f : List Layer → Rounds) → tells x ≡ true → ((u : List Layer) → stops (f u) ≡ true) →
      stops (onward stored ss k x f) ≡ true
  onward_stops ss k (given u) f e h = by_end (f u) (h u)
    where
      by_end : (w : Rounds) → stops w ≡ true → stops (onward stored ss k (given u) (λ v. w)) ≡ true
      by_end (ended us j c) e = e
      by_end (stopped n) e = e
  onward_stops ss k nothing f e h = refl
  onward_stops ss k (refused n p) f e h = e

  rounds-stop : (n : ℕ) (t : List Layer) (q : List Step) → stops (in_rounds stored n t q) ≡ true
  unfolding in_rounds
  rounds-stop zero t q = refl
  rounds-stop (suc n) t [] = refl
  rounds-stop (suc n) t (a ∷ q) =
      let r = turn_at t a in
      onward_stops (steps_of a r) (taken_by r) (goes stored t a r) (λ u. in_rounds stored n u (drop (taken_by r) (a ∷ q))) (goes-tells t a r)
      (λ u. rounds-stop n u (drop (taken_by r) (a ∷ q)))

-- the settling
otherwise-tells : (c : List Layer) (n p : ℕ) → tells (settle_otherwise c n p) ≡ true
unfolding settle_otherwise
otherwise-tells c n p =
    either (leb (p + 2) n) _ _ refl (either (eqb n (p + 1)) _ _ refl (either (eqb (outer c) kind.slice_pointer) _ _ refl refl))

by-line : (l : Line) (c t : List Layer) (n : ℕ) → tells (settle_by l c t n) ≡ true
unfolding settle_by
by-line line.i c t n = refl
by-line line.ii c t n = refl
by-line line.iii c t n = refl
by-line line.iv c t n = refl
by-line line.v c t n = refl
by-line line.vi c t n = refl
by-line line.vii c t n = otherwise-tells c n (pointer_depth c)

settle-tells : (c t : List Layer) (n : ℕ) → tells (settle c t n) ≡ true
unfolding settle
settle-tells c t n = by-line (line_of c t n) c t n

settling-tells : (ss : List Step) (k : ℕ) (a : Answer Settled) → tells a ≡ true → tells (with_settling ss k a) ≡ true
settling-tells ss k (given s) e = either (ltb 16 (length s.type)) _ _ refl refl
settling-tells ss k nothing e = e
settling-tells ss k (refused n p) e = e

-- the plan
module _ (stored : ℕ → Stored) (known : List Layer) (asked : List Step) (target : List Layer) (depth limit : ℕ) where
  by-rounds : (w : Rounds) → stops w ≡ true → tells (settle_rounds w target depth) ≡ true
  by-rounds (ended ss k c) e = settling-tells ss k (settle c target depth) (settle-tells c target depth)
  by-rounds (stopped n) e = e

  plan-tells : tells (plan_of stored known asked target depth limit) ≡ true
  unfolding plan_of
  plan-tells =
      either (not (well_formed known)) _ _ refl (either (not (well_formed target)) _ _ refl (by-rounds (in_rounds stored limit known asked) (rounds-stop stored limit known asked)))

delivery-tells : (room wide : ℕ) (a : Answer Plan) → tells a ≡ true → tells (delivered room wide a) ≡ true
unfolding delivered
delivery-tells room wide (given p) e = either (ltb room (length (step_words p.steps)) || _) _ _ refl refl
delivery-tells room wide nothing e = e
delivery-tells room wide (refused n p) e = e

module _ (table : List Symbol) (store known asked target : List ℕ) (depth limit room wide : ℕ) where
  answer-tells : tells (plan_answer table store known asked target depth limit room wide) ≡ true
  unfolding plan_answer planned
  answer-tells =
      then (question known asked target limit) _ (question-tells known asked target limit)
      (either (in_order table store) _ _ (delivery-tells room wide _ (plan-tells (members table store) (layers known) (steps asked) (layers target) depth limit)) refl)

  -- no refusal: the answer is a plan
  pub not-refused : (told (plan_answer table store known asked target depth limit room wide)).refusal ≡ 0 →
      (p : Plan) × (plan_answer table store known asked target depth limit room wide ≡ given p)
  unfolding told
  not-refused e = by_answer (plan_answer table store known asked target depth limit room wide) answer-tells e
    where
      by_answer : (a : Answer Plan) → tells a ≡ true → (told a).refusal ≡ 0 → (p : Plan) × (a ≡ given p)
      by_answer (given p) t e = (p, refl)
      by_answer nothing t e = absurd (false≢true t)
      by_answer (refused n q) t e = absurd (false≢true (ap (λ (k : ℕ). not (eqb k 0)) (sym e) ∙ t))
