-- The third demand, of what `autoderef` returns and writes: the plan that stands in its report and in its outputs meets it,
-- and reports what it should.
-- Assumes nothing.
use mathlib.Core.Path.{◌≡◌, refl, sym, ap, subst, ◌∙◌}
use mathlib.Core.Bool.{Bool, true, false, cond, ◌&&◌, ◌||◌, true≢false, false≢true}
use mathlib.Core.List.{List, [], ◌∷◌}
use Prim.Native.Nat.{ℕ, ◌*◌, ◌/◌, ◌%◌, ◌≤◌}
use native.Mathlib.Omega.{arith}
use lib.Dec.{eqb, leb, ltb}
use lib.ListN.{length, take, drop, get_or}
use lib.Seq.{take_at}
use borrow.Author.Tests.{eqb-true, leb-true, ltb-false}
use seplogic.Ra.Ura.{Ura}
use base.Logic.{SProp}
use prog.Memory.{Memory}
use prog.Routine.{Routine}
use types.Logic.{Logic}
use contract.Lifetimes.{Lfts}
use contract.Monad.{Fun, fact}
use denote.Triple.Entry.{Args}
use Rattle.type_layers.specs.Layers.{Layer, layers, spelled}
use Rattle.type_layers.specs.Answer.{Answer, given, nothing, refused, next, is_given}
use Rattle.type_checks.specs.Check.{check_of}
use Rattle.type_layers.proofs.Decide.{both}
use Rattle.type_layers.proofs.Given.{not-given, nothing-given, given_is}
use Rattle.type_checks.proofs.Accepted.{good_layers, accepted-whole, accepted-good}
use Rattle.type_checks.proofs.Refusals.{next-next}
use Rattle.type_layers.proofs.Spelling.{spelled-length, layers-spelled}
use Rattle.write_words.specs.Written.{written}
use Rattle.write_words.proofs.Writing.{fits}
use Rattle.symbol_columns.specs.declared.symbol.Symbol.{Symbol}
use Rattle.symbol_columns.specs.Record as rows
use Rattle.symbol_columns.specs.Record.{vacant}
use Rattle.symbol_columns.specs.StoredWords.{slot_words, stored_words}
use Rattle.symbol_search.specs.Search.{slot_for}
use Rattle.symbol_order.specs.Order.{in_order}
use Rattle.plan_steps.specs.Steps.{steps, step_words, good_steps, steps_answer}
use Rattle.plan_steps.proofs.Words.{words-length, words_back, words-whole}
use Rattle.symbol_members.specs.Member.{Stored, typed, absent}
use Rattle.symbol_members.specs.Members.{of_layers, members, member_words}
use Rattle.symbol_members.proofs.Storing.{stored-good, member-whole}
use Rattle.plan_rounds.proofs.Finishing.{whole-few}
use Rattle.plan_report.specs.declared.report.Report.{Report}
use Rattle.plan_report.specs.Plan.{Plan}
use Rattle.planner.specs.Plans.{plan_of, limits, planned, plan_answer}
use Rattle.plan_report.specs.Report.{delivered, told, steps_over, type_over, plan_read, Delivers}
use Rattle.planner.specs.Demand.{Demand}
use Rattle.planner.specs.Reported.{Reported}
use Rattle.plan_report.proofs.Delivering.{second_fits}
use Rattle.planner.proofs.Asking.{passed}
use Rattle.planner.proofs.Sound.{Passing}
use Rattle.planner.proofs.Arrives.{demand, reported}
use Rattle.planner.proofs.Answered.{not-refused}
use Rattle.planner.specs.contracts.autoderef_lent.autoderef as autoderef

-- the layers of every member of a table in order are good
good-words : (ws : List ℕ) (x : Answer ℕ) → check_of ws ≡ x → is_given x ≡ true → good_layers (layers ws) ≡ true
good-words ws (given n) e g = accepted-good ws n e
good-words ws nothing e g = absurd (false≢true g)
good-words ws (refused n p) e g = absurd (false≢true g)

module _ (table : List Symbol) (store : List ℕ) (id : ℕ) (ok : in_order table store ≡ true) where
  abbrev k : ℕ
  k = slot_for id table

  abbrev s : Symbol
  s = get_or table k vacant

  abbrev ws : List ℕ
  ws = stored_words s.layers (slot_words store k)

  by_state : (f : Bool) → rows.typed s ≡ f → good_layers (layers (cond f ws [])) ≡ true
  unfolding good_layers layers
  by_state true e = good-words ws (check_of ws) refl (stored-good table store id ok e)
  by_state false e = refl

  member-good : good_layers (layers (member_words table store id)) ≡ true
  unfolding member_words
  member-good = by_state (rows.typed s) refl

  abbrev type_in : Stored → List Layer
  type_in (typed t) = t
  type_in absent = []

  type-is : (l : List Layer) → l ≡ type_in (of_layers l)
  type-is [] = refl
  type-is (x ∷ l) = refl

  pub members-pass : (t : List Layer) → members table store id ≡ typed t → Passing t
  unfolding members
  members-pass t e =
      subst Passing (type-is (layers (member_words table store id)) ∙ ap type_in e)
      (record { good = member-good; few = whole-few (member_words table store id) (member-whole table store id ok) })

-- what was written is read again
pub front : (ws b : List ℕ) (n : ℕ) → length ws ≡ n → length ws ≤ length b → take n (written ws b) ≡ ws
front ws b n e h = ap (take n) (fits ws b h) ∙ take_at ws (drop (length ws) b) n e

read_back : (p : Plan) (b c : List ℕ) → length (step_words p.steps) ≤ length b → length (spelled p.type) ≤ length c →
    plan_read (told (given p)) (steps_over (given p) b) (type_over (given p) c) ≡ p
unfolding told steps_over type_over
read_back p b c h i =
    let es = ap steps (front (step_words p.steps) b (4 * length p.steps) (words-length p.steps) h) ∙ words_back p.steps in
    let et = ap layers (front (spelled p.type) c (3 * length p.type) (spelled-length p.type) i) ∙ layers-spelled p.type in
    λ j. record { steps = es j; taken = p.taken; type = et j; address = p.address; coerced = p.coerced }

-- what is behind a plan that is given
first_fits : (a b c d : ℕ) → (ltb a b || ltb c d) ≡ false → b ≤ a
first_fits a b c d e = by_first (ltb a b) refl e
  where
    by_first : (f : Bool) → ltb a b ≡ f → (f || ltb c d) ≡ false → b ≤ a
    by_first true q e = absurd (true≢false e)
    by_first false q e = ltb-false a b q

abbrev Delivered : ℕ → ℕ → Answer Plan → Plan → Type 0
Delivered room wide a p = (a ≡ given p) × (length (step_words p.steps) ≤ room) × (length (spelled p.type) ≤ wide)

by-room : (room wide : ℕ) (a : Answer Plan) (p : Plan) → delivered room wide a ≡ given p → Delivered room wide a p
unfolding delivered
by-room room wide nothing p e = absurd (nothing-given p e)
by-room room wide (refused n q) p e = absurd (not-given n q p e)
by-room room wide (given x) p e = by-test (ltb room (length (step_words x.steps)) || ltb wide (length (spelled x.type))) refl e
  where
    by-test : (f : Bool) → (ltb room (length (step_words x.steps)) || ltb wide (length (spelled x.type))) ≡ f →
        cond f (refused 14 0) (given x) ≡ given p → Delivered room wide (given x) p
    by-test true q e = absurd (not-given 14 0 p e)
    by-test false q e =
        subst (Delivered room wide (given x)) (given_is x p e)
        (refl, first_fits room (length (step_words x.steps)) wide (length (spelled x.type)) q, second_fits room (length (step_words x.steps)) wide (length (spelled x.type)) q)

-- steps that pass their check
asked-pass : {B : Type 0} (asked : List ℕ) (limit : ℕ) (d : Answer B) (p : B) → next (limits asked limit) d ≡ given p →
    (limit ≤ 64) × (length (steps asked) ≤ 32) × (good_steps (steps asked) ≡ true) × (d ≡ given p)
unfolding steps_answer
asked-pass {B} asked limit d p e = by-limit (ltb 64 limit) refl e
  where
    by-steps : (f : Bool) → (eqb (length asked % 4) 0 && leb (length asked / 4) 32 && good_steps (steps asked)) ≡ f → limit ≤ 64 →
        next (cond f (given (length asked / 4)) (refused 5 0)) d ≡ given p →
        (limit ≤ 64) × (length (steps asked) ≤ 32) × (good_steps (steps asked) ≡ true) × (d ≡ given p)
    by-steps true g h e =
        let b = both (eqb (length asked % 4) 0 && leb (length asked / 4) 32) (good_steps (steps asked)) g in
        let c = both (eqb (length asked % 4) 0) (leb (length asked / 4) 32) b.0 in
        let whole = words-whole asked (eqb-true (length asked % 4) 0 c.0) in
        (h, omega (arith, words-length (steps asked), ap length whole, leb-true (length asked / 4) 32 c.1), b.1, e)
    by-steps false g h e = absurd (not-given 5 0 p e)

    by-limit : (f : Bool) → ltb 64 limit ≡ f → next (cond f (refused 5 0) (steps_answer 32 asked)) d ≡ given p →
        (limit ≤ 64) × (length (steps asked) ≤ 32) × (good_steps (steps asked) ≡ true) × (d ≡ given p)
    by-limit true g e = absurd (not-given 5 0 p e)
    by-limit false g e = by-steps (eqb (length asked % 4) 0 && leb (length asked / 4) 32 && good_steps (steps asked)) refl (ltb-false 64 limit g) e

module _ (table : List Symbol) (store known asked target : List ℕ) (depth limit : ℕ) where
  abbrev stored : ℕ → Stored
  stored = members table store

  abbrev planned-by : Answer Plan
  planned-by = plan_of stored (layers known) (steps asked) (layers target) depth limit

  by_order : (room wide : ℕ) (p : Plan) (f : Bool) → in_order table store ≡ f → cond f (delivered room wide planned-by) (refused 12 0) ≡ given p →
      (in_order table store ≡ true) × (delivered room wide planned-by ≡ given p)
  by_order room wide p true q e = (q, e)
  by_order room wide p false q e = absurd (not-given 12 0 p e)

  -- a plan that is given: the checks passed, the rules plan it, and there is room for it
  pub record Given (room wide : ℕ) (p : Plan) : Type 0 where
    pub known-passes : check_of known ≡ given (length known / 3)
    pub target-passes : check_of target ≡ given (length target / 3)
    pub rounds-few : limit ≤ 64
    pub asked-few : length (steps asked) ≤ 32
    pub asked-good : good_steps (steps asked) ≡ true
    pub order : in_order table store ≡ true
    pub plan : planned-by ≡ given p
    pub steps-fit : length (step_words p.steps) ≤ room
    pub type-fits : length (spelled p.type) ≤ wide

  by_answer : (room wide : ℕ) (p : Plan) → plan_answer table store known asked target depth limit room wide ≡ given p → Given room wide p
  unfolding plan_answer planned
  by_answer room wide p e =
      let end : Answer Plan = planned table store known asked target depth limit room wide in
      let first = passed known (next (next (check_of target) (limits asked limit)) end) p (sym (next-next (check_of known) (next (check_of target) (limits asked limit)) end) ∙ e) in
      let second = passed target (next (limits asked limit) end) p (sym (next-next (check_of target) (limits asked limit) end) ∙ first.1) in
      let third = asked-pass asked limit end p second.1 in
      let order = by_order room wide p (in_order table store) refl third.3 in
      let there = by-room room wide planned-by p order.1 in
      record {
        known-passes = first.0;
        target-passes = second.0;
        rounds-few = third.0;
        asked-few = third.1;
        asked-good = third.2;
        order = order.0;
        plan = there.0;
        steps-fit = there.1;
        type-fits = there.2;
      }

  pub known-passing : {room wide : ℕ} {p : Plan} → Given room wide p → Passing (layers known)
  known-passing g =
      record {
        good = accepted-good known (length known / 3) g.known-passes;
        few = whole-few known (accepted-whole known (length known / 3) g.known-passes);
      }

  -- what a report and two outputs say, where the plan is given
  module _ (r : Report) (b b' c c' : List ℕ)
      (h : Delivers (plan_answer table store known asked target depth limit) r b b' c c')
      (z : r.refusal ≡ 0) where
    found : (p : Plan) × (plan_answer table store known asked target depth limit (length b) (length c) ≡ given p)
    found = not-refused table store known asked target depth limit (length b) (length c) (ap (λ (x : Report). x.refusal) (sym h.0) ∙ z)

    behind : Given (length b) (length c) found.0
    behind = by_answer (length b) (length c) found.0 found.1

    report-is : r ≡ told (given found.0)
    report-is = h.0 ∙ ap told found.1

    steps-are : b' ≡ steps_over (given found.0) b
    steps-are = h.1.0 ∙ ap (λ (a : Answer Plan). steps_over a b) found.1

    type-is-over : c' ≡ type_over (given found.0) c
    type-is-over = h.1.1 ∙ ap (λ (a : Answer Plan). type_over a c) found.1

    -- the plan that stands in the report and in the outputs is the one that the rules give
    read : plan_read r b' c' ≡ found.0
    read = (λ j. plan_read (report-is j) (steps-are j) (type-is-over j)) ∙ read_back found.0 b c behind.steps-fit behind.type-fits

    -- its words are the outputs' first ones
    pub steps-read : take (4 * r.steps) b' ≡ step_words (plan_read r b' c').steps
    unfolding told steps_over
    steps-read =
        (λ j. take (4 * (report-is j).steps) (steps-are j))
        ∙ front (step_words found.0.steps) b (4 * length found.0.steps) (words-length found.0.steps) behind.steps-fit
        ∙ ap (λ (p : Plan). step_words p.steps) (sym read)

    pub type-read : take (3 * r.layers) c' ≡ spelled (plan_read r b' c').type
    unfolding told type_over
    type-read =
        (λ j. take (3 * (report-is j).layers) (type-is-over j))
        ∙ front (spelled found.0.type) c (3 * length found.0.type) (spelled-length found.0.type) behind.type-fits
        ∙ ap (λ (p : Plan). spelled p.type) (sym read)

    pub layers-read : r.layers ≡ length (plan_read r b' c').type
    unfolding told
    layers-read = ap (λ (x : Report). x.layers) report-is ∙ ap (λ (p : Plan). length p.type) (sym read)

    pub is-given : Given (length b) (length c) (plan_read r b' c')
    is-given = subst (Given (length b) (length c)) (sym read) behind

    -- THE THEOREM: where the report has no refusal, the plan that stands in it and in the outputs meets the third demand.
    pub demand-carried : Demand stored (layers known) (steps asked) (layers target) depth limit (plan_read r b' c')
    demand-carried =
        demand stored (λ id. members-pass table store id is-given.order) (layers known) (known-passing is-given) (steps asked) is-given.asked-good
        (layers target) depth limit (plan_read r b' c') is-given.plan

    -- and what it reports is the target, or is coerced into it, or is by line (vii)
    pub reported-carried : Reported stored (layers known) (layers target) depth (plan_read r b' c')
    reported-carried =
        reported (layers target) (accepted-good target (length target / 3) is-given.target-passes) stored (layers known) (steps asked) depth limit
        (plan_read r b' c') is-given.plan

-- A function's contract, taken whole: what it ensures is a fact, and from it follows Then.
abbrev pub Ensures : {M : Type 1} (𝓤 : Ura M) {R S : Type 0} → (R → S → SProp 𝓤) → (R → S → Type 0) → Type 2
Ensures 𝓤 {R} {S} ensures Then = (Q : R → S → Type 0) × (((x : R) (s : S) → ensures x s ≡ fact 𝓤 (Q x s)) × ((x : R) (s : S) → Q x s → Then x s))

module _ {M : Type 1} {𝓤 : Ura M} (𝓛 : Logic 𝓤) (mem : Memory → SProp 𝓤) (run : Routine → Fun 𝓤) where
  -- where the report has no refusal, the plan that was told and written meets the third demand
  pub autoderef-demand : (κs : Lfts 5) (a : Args autoderef.signature κs) →
      let known = a.0.now in
      let asked = a.1.0.now in
      let target = a.1.1.0.now in
      let level = a.1.1.1.0 in
      let limit = a.1.1.1.1.0 in
      let table = a.1.1.1.1.1.0.now in
      let store = a.1.1.1.1.1.1.0.now in
      Ensures 𝓤 ((autoderef.clauses 𝓛 mem run κs a).ensures tt)
      (λ r s.
      let steps_after = s.1.1.1.1.1.1.1.0.now in
      let type_after = s.1.1.1.1.1.1.1.1.0.now in
      r.refusal ≡ 0 → Demand (members table store) (layers known) (steps asked) (layers target) level limit (plan_read r steps_after type_after))
  autoderef-demand κs a = (
    _,
    (
      λ x s. refl,
      λ r s q.
          demand-carried a.1.1.1.1.1.0.now a.1.1.1.1.1.1.0.now a.0.now a.1.0.now a.1.1.0.now a.1.1.1.0 a.1.1.1.1.0
          r a.1.1.1.1.1.1.1.0.now s.1.1.1.1.1.1.1.0.now a.1.1.1.1.1.1.1.1.0.now s.1.1.1.1.1.1.1.1.0.now q,
    ),
  )
