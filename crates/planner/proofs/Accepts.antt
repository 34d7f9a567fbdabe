-- The walker accepts every plan that is given: it answers the reported type, or the exception holds, and that can be seen.
-- Assumes nothing.
use mathlib.Core.Path.{◌≡◌, refl, sym, ap, ◌∙◌}
use mathlib.Core.Bool.{Bool, true, false}
use mathlib.Core.Logic.{◌⊎◌, inl, inr, ⊎_elim}
use mathlib.Core.List.{List}
use Prim.Native.Nat.{ℕ, ◌+◌, ◌*◌, ◌/◌, ◌%◌, ◌≤◌, ◌<◌}
use native.Mathlib.Omega.{arith}
use lib.Dec.{ltb}
use lib.ListN.{length, take}
use borrow.Author.Tests.{eq-eqb, le-leb, le-ltb, lt-ltb, ltb-true, ltb-false}
use Rattle.type_layers.specs.Layers.{Layer, layers, spelled}
use Rattle.type_layers.specs.Answer.{given}
use Rattle.type_layers.proofs.Spelling.{spelled-length, layers-spelled}
use Rattle.write_words.specs.Written.{written}
use Rattle.write_type.specs.Outcome as outcome
use Rattle.write_type.specs.Outcome.{answer_in, buffer_in}
use Rattle.symbol_columns.specs.declared.symbol.Symbol.{Symbol}
use Rattle.write_answer.specs.declared.answer.Answer.{Answer}
use Rattle.write_answer.specs.Flat.{accepted, not_accepted, flat}
use Rattle.plan_steps.specs.Steps.{steps, steps_answer}
use Rattle.plan_steps.proofs.Words.{words-length}
use Rattle.symbol_members.specs.Member.{Stored}
use Rattle.walker_rule.specs.Walker.{at, arrives}
use Rattle.symbol_members.specs.Members.{members}
use Rattle.walker_run.specs.Walked.{walk_to}
use Rattle.walker_run.proofs.Theorems.{arrives-walk}
use Rattle.plan_report.specs.declared.report.Report.{Report}
use Rattle.plan_report.specs.Plan.{Plan}
use Rattle.plan_report.specs.Report.{Delivers, plan_read}
use Rattle.planner.specs.Plans.{plan_answer}
use Rattle.planner.specs.Demand.{Hidden, Demand}
use Rattle.planner.specs.Accepts.{Agrees, Accepts}
use Rattle.planner.proofs.Arrives.{few-in-all, arrives-few}
use Rattle.planner.proofs.Carried.{Given, front, members-pass, known-passing, steps-read, type-read, layers-read, is-given, demand-carried}
use Rattle.planner.proofs.Excluded.{exception-shows}

module _ (table : List Symbol) (store known asked target : List ℕ) (depth limit : ℕ) (r : Report) (b b' c c' : List ℕ)
    (h : Delivers (plan_answer table store known asked target depth limit) r b b' c c')
    (z : r.refusal ≡ 0) where
  abbrev stored : ℕ → Stored
  stored = members table store

  abbrev plan : Plan
  plan = plan_read r b' c'

  abbrev pub exception : Type 0
  exception = Hidden stored (layers known) (layers target) depth plan

  ok : Given table store known asked target depth limit (length b) (length c) plan
  ok = is-given table store known asked target depth limit r b b' c c' h z

  meets : Demand stored (layers known) (steps asked) (layers target) depth limit plan
  meets = demand-carried table store known asked target depth limit r b b' c c' h z

  on-view : (x : exception) → arrives stored plan.steps plan.address (layers known) ≡ at x.holds.c
  unfolding arrives
  on-view x = rw (x.holds.ends, x.plain) refl

  -- where the walker arrives
  reached : (u : List Layer) × ((arrives stored plan.steps plan.address (layers known) ≡ at u) × ((u ≡ plan.type) ⊎ exception))
  reached = ⊎_elim (λ e. (plan.type, (e, inl refl))) (λ x. (x.holds.c, (on-view x, inr x))) meets.there

  abbrev u : List Layer
  u = reached.0

  u-few : length u ≤ 16
  u-few =
      arrives-few stored (λ id. members-pass table store id ok.order) (layers known) (known-passing table store known asked target depth limit ok) (steps asked)
      ok.asked-good (layers target) depth limit plan ok.plan u reached.1.0

  abbrev ws : List ℕ
  ws = take (4 * r.steps) b'

  ws-length : length ws ≡ 4 * length plan.steps
  ws-length = ap length (steps-read table store known asked target depth limit r b b' c c' h z) ∙ words-length plan.steps

  ws-few : length plan.steps ≤ limit + length (steps asked) + 17
  ws-few =
      few-in-all stored (λ id. members-pass table store id ok.order) (layers known) (known-passing table store known asked target depth limit ok) (steps asked)
      ok.asked-good (layers target) depth limit plan ok.plan

  steps-pass : steps_answer 128 ws ≡ given (length ws / 4)
  unfolding steps_answer
  steps-pass =
      let whole : length ws % 4 ≡ 0 = omega (arith, ws-length) in
      let few : length ws / 4 ≤ 128 = omega (arith, ws-length, ws-few, ok.rounds-few, ok.asked-few) in
      rw (eq-eqb (length ws % 4) 0 whole, le-leb (length ws / 4) 128 few, meets.good) refl

  walks : walk_to known ws r.address table store ≡ given u
  walks = arrives-walk known ws store r.address table u (length known / 3) (length ws / 4) ok.known-passes steps-pass ok.order reached.1.0

  -- the walker's answer and its output
  module _ (a : Answer) (out out' : List ℕ)
      (k : (a ≡ flat (answer_in out (walk_to known ws r.address table store))) × (out' ≡ buffer_in out (walk_to known ws r.address table store))) where
    short : length out < length (spelled u) → a ≡ not_accepted 14 0
    unfolding outcome.delivered outcome.told flat
    short i = k.0 ∙ rw (walks, le-ltb 16 (length u) u-few, lt-ltb (length out) (length (spelled u)) i) refl

    module _ (i : length (spelled u) ≤ length out) where
      answer : a ≡ accepted (length (spelled u))
      unfolding outcome.delivered outcome.told flat
      answer = k.0 ∙ rw (walks, le-ltb 16 (length u) u-few, le-ltb (length out) (length (spelled u)) i) refl

      buffer : out' ≡ written (spelled u) out
      unfolding outcome.delivered outcome.over
      buffer = k.1 ∙ rw (walks, le-ltb 16 (length u) u-few, le-ltb (length out) (length (spelled u)) i) refl

      words : (n : ℕ) → length (spelled u) ≡ n → take n out' ≡ spelled u
      words n e = ap (take n) buffer ∙ front (spelled u) out n e i

    type-words : take (3 * r.layers) c' ≡ spelled plan.type
    type-words = type-read table store known asked target depth limit r b b' c c' h z

    type-layers : r.layers ≡ length plan.type
    type-layers = layers-read table store known asked target depth limit r b b' c c' h z

    agrees : u ≡ plan.type → 3 * r.layers ≤ length out → Agrees r c' a out'
    agrees is room =
        let n : length (spelled u) ≡ 3 * r.layers = omega (arith, spelled-length u, ap length is, type-layers) in
        let fits : length (spelled u) ≤ length out = omega (arith, n, room) in
        (ap (λ (x : Answer). x.refusal) (answer fits), ap (λ (x : Answer). x.value) (answer fits) ∙ n, words fits (3 * r.layers) n ∙ ap spelled is ∙ sym type-words)

    by-room : (f : Bool) → ltb (length out) (length (spelled u)) ≡ f → (a.refusal ≡ 0) ⊎ ((a.refusal ≡ 14) × (length out < 48))
    by-room true e =
        let i = ltb-true (length out) (length (spelled u)) e in
        inr (ap (λ (x : Answer). x.refusal) (short i), omega (arith, i, spelled-length u, u-few))
    by-room false e = inl (ap (λ (x : Answer). x.refusal) (answer (ltb-false (length out) (length (spelled u)) e)))

    -- where the answer agrees, the walker arrives at the reported type
    arrived : Agrees r c' a out' → u ≡ plan.type
    arrived g = by-fit (ltb (length out) (length (spelled u))) refl
      where
        by-fit : (f : Bool) → ltb (length out) (length (spelled u)) ≡ f → u ≡ plan.type
        by-fit true e =
            let i = ltb-true (length out) (length (spelled u)) e in
            absurd (omega (arith, ap (λ (x : Answer). x.refusal) (short i), g.0))
        by-fit false e =
            let i = ltb-false (length out) (length (spelled u)) e in
            let n : length (spelled u) ≡ 3 * r.layers = sym (ap (λ (x : Answer). x.value) (answer i)) ∙ g.1 in
            sym (layers-spelled u) ∙ ap layers (sym (words i (3 * r.layers) n) ∙ g.2 ∙ type-words) ∙ layers-spelled plan.type

    pub accepts : Accepts exception r c' a out' (length out)
    accepts = record {
      answers = λ room. ⊎_elim (λ is. inl (agrees is room)) (λ x. inr x) reached.1.1;
      only = by-room (ltb (length out) (length (spelled u))) refl;
      shows = λ x g. exception-shows stored (layers known) (layers target) depth plan x (reached.1.0 ∙ ap at (arrived g));
    }
