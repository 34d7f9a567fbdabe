-- The answer to a question, by what its checks said.
-- Assumes nothing.
use mathlib.Core.Path.{◌≡◌, refl, sym}
use mathlib.Core.Bool.{Bool, true, false, cond}
use mathlib.Core.List.{List}
use Prim.Native.Nat.{ℕ, ◌/◌, ◌≤◌, ◌<◌}
use lib.Dec.{ltb}
use lib.ListN.{length}
use borrow.Author.Tests.{ltb-false}
use Rattle.type_layers.specs.Layers.{layers}
use Rattle.type_layers.specs.AsCoded.{Whole}
use Rattle.type_layers.specs.Answer.{Answer, given, refused, next}
use Rattle.type_checks.specs.Check.{Place, at, nowhere, bad_count, bad_layer, misplaced, unless, check_of}
use Rattle.type_layers.proofs.Given.{not-given}
use Rattle.type_checks.proofs.Accepted.{accepted-whole}
use Rattle.type_wellformed.specs.WellFormed.{well_formed}
use Rattle.symbol_columns.specs.declared.symbol.Symbol.{Symbol}
use Rattle.symbol_columns.specs.AsCoded.{read_from}
use Rattle.symbol_lent.specs.AsCoded.{gathered}
use Rattle.symbol_order.specs.Order.{in_order}
use Rattle.symbol_columns.proofs.Reading.{length-read}
use Rattle.symbol_lent.proofs.Gathering.{swapped}
use Rattle.symbol_order.proofs.Ordered.{ordered, too_long}
use Rattle.plan_steps.specs.Steps.{steps_answer}
use Rattle.symbol_members.specs.Members.{of_layers, members}
use Rattle.symbol_members.proofs.Storing.{member-whole}
use Rattle.walker_run.proofs.Stepping.{at_most}
use Rattle.symbol_columns.specs.Table.{records}
use Rattle.symbol_columns.specs.declared.table.Table.{Table}
use Rattle.plan_report.specs.Plan.{Plan}
use Rattle.planner.specs.Plans.{plan_of, limits, question, planned, plan_answer}
use Rattle.planner.specs.AsCoded.{question_of, planned_of, answer_to}
use Rattle.plan_report.specs.Report.{delivered, steps_over, type_over, HandsResult}
use Rattle.plan_report.specs.declared.report.Report.{Report}
use Rattle.std.specs.Prelude.{Result, Err}
use Rattle.type_numbers.specs.Refusal.{number_of}
use Rattle.type_layers.specs.declared.answers.Refused.{Refused}
use Rattle.plan_rounds.specs.AsCoded.{AllWhole, stored_in, plan_in_rounds}
use Rattle.plan_rounds.specs.declared.question.Question.{Question}

-- what is handed out for a refusal
pub hands-told : (d : Answer Plan) (r : Result Report Refused) (x : Refused) (b t : List ℕ) → r ≡ Err x → d ≡ refused (number_of x.refusal) x.place → HandsResult d r b b t t
unfolding steps_over type_over
hands-told d r x b t e q = rw (e, q) (refl, (refl, refl))

-- what is planned of a question that passed its checks
module _ (t : Table) (q : Question) (room wide : ℕ) where
  pub out_of_order : false ≡ in_order (records t) t.store.now → planned_of t q room wide ≡ refused 12 0
  unfolding planned
  out_of_order e = rw (← e)

  module _ (ok : true ≡ in_order (records t) t.store.now) where
    pub known-ill-formed : false ≡ well_formed (layers q.known.now) → planned_of t q room wide ≡ refused 4 0
    unfolding planned plan_of delivered
    known-ill-formed e = rw (← ok, ← e)

    module _ (known : true ≡ well_formed (layers q.known.now)) where
      pub target-ill-formed : false ≡ well_formed (layers q.target.now) → planned_of t q room wide ≡ refused 4 0
      unfolding planned plan_of delivered
      target-ill-formed e = rw (← ok, ← known, ← e)

      few : t.count ≤ 128
      few = rw (length-read t.columns.now 0 t.count) at (ordered (records t) t.store.now (sym ok)).few

      same-members : stored_in t ≡ members (records t) t.store.now
      unfolding members
      same-members = λ i id. of_layers (layers (at_most t.columns.now t.store.now t.count id few i))

      pub planned-so : true ≡ well_formed (layers q.target.now) → planned_of t q room wide ≡ plan_in_rounds t q room wide
      unfolding planned plan_of plan_in_rounds
      planned-so e = rw (← ok, ← known, ← e, ← same-members) refl

-- the members of a table in order
pub all_whole : (t : Table) → true ≡ in_order (records t) t.store.now → AllWhole t
all_whole t ok id =
    let few : t.count ≤ 128 = rw (length-read t.columns.now 0 t.count) at (ordered (records t) t.store.now (sym ok)).few in
    rw (at_most t.columns.now t.store.now t.count id few) (member-whole (records t) t.store.now id (sym ok))

-- a question that passed its checks
pub passed : {A : Type 0} (ws : List ℕ) (c : Answer A) (i : A) → next (check_of ws) c ≡ given i → (check_of ws ≡ given (length ws / 3)) × (c ≡ given i)
unfolding check_of
passed {A} ws c i e = by_count (bad_count (length ws)) (bad_layer 0 (layers ws)) (misplaced 0 (layers ws)) e
  where
    by_count : (b : Bool) (l m : Place) → next (cond b (refused 1 0) (unless l 2 (unless m 3 (given (length ws / 3))))) c ≡ given i →
        (cond b (refused 1 0) (unless l 2 (unless m 3 (given (length ws / 3)))) ≡ given (length ws / 3)) × (c ≡ given i)
    by_count true l m e = absurd (not-given 1 0 i e)
    by_count false (at p) m e = absurd (not-given 2 p i e)
    by_count false nowhere (at p) e = absurd (not-given 3 p i e)
    by_count false nowhere nowhere e = (refl, e)

module _ (q : Question) (i : ℕ) (e : given i ≡ question_of q) where
  first : (check_of q.known.now ≡ given (length q.known.now / 3)) × (next (check_of q.target.now) (limits q.asked.now q.rounds) ≡ given i)
  first = passed q.known.now (next (check_of q.target.now) (limits q.asked.now q.rounds)) i (sym e)

  second : (check_of q.target.now ≡ given (length q.target.now / 3)) × (limits q.asked.now q.rounds ≡ given i)
  second = passed q.target.now (limits q.asked.now q.rounds) i first.1

  pub known-whole : Whole q.known.now
  known-whole = accepted-whole q.known.now (length q.known.now / 3) first.0

  pub target-whole : Whole q.target.now
  target-whole = accepted-whole q.target.now (length q.target.now / 3) second.0

  pub few-rounds : q.rounds ≤ 64
  few-rounds = by-limit (ltb 64 q.rounds) refl second.1
    where
      by-limit : (f : Bool) → ltb 64 q.rounds ≡ f → cond f (refused 5 0) (steps_answer 32 q.asked.now) ≡ given i → q.rounds ≤ 64
      by-limit true p h = absurd (not-given 5 0 i h)
      by-limit false p h = ltb-false 64 q.rounds p

-- the answer to a question, by what its checks said
module _ (t : Table) (q : Question) (room wide : ℕ) where
  pub question-refused : (n p : ℕ) → refused n p ≡ question_of q → answer_to t q room wide ≡ refused n p
  unfolding plan_answer
  question-refused n p e = rw (← e) refl

  pub question-passed : (i : ℕ) → given i ≡ question_of q → answer_to t q room wide ≡ planned_of t q room wide
  unfolding plan_answer
  question-passed i e = rw (← e) refl

-- from the columns to the table
module _ (store known asked target : List ℕ) (level rounds room wide : ℕ) (table : List Symbol) where
  abbrev answer : List Symbol → Answer Plan
  answer l = plan_answer l store known asked target level rounds room wide

  too_many : (l : List Symbol) → length l ≡ length table → 128 < length l → answer l ≡ next (question known asked target rounds) (refused 12 0)
  unfolding plan_answer planned
  too_many l e h = rw (too_long l store h)

  pub plan-same : answer (read_from (gathered table) 0 (length table)) ≡ answer table
  plan-same = swapped table answer (next (question known asked target rounds) (refused 12 0)) too_many
