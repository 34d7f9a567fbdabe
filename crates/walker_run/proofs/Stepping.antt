-- The steps, one after the other.
-- Assumes nothing.
use mathlib.Core.Path.{◌≡◌, refl, sym, ◌∙◌}
use mathlib.Core.Bool.{Bool, true, false, not, cond, false≢true}
use mathlib.Core.List.{List, []}
use Prim.Native.Nat.{ℕ, ◌+◌, ◌*◌, ◌≤◌, ◌<◌}
use native.Mathlib.Omega.{arith}
use lib.Dec.{eqb, leb}
use lib.ListN.{length, drop, length-drop}
use borrow.Author.Tests.{eq-eqb, le-ltb}
use Rattle.type_layers.specs.Layers.{Layer, layers, outer}
use Rattle.type_layers.specs.AsCoded.{Whole}
use Rattle.type_layers.specs.Answer as paper
use Rattle.type_layers.specs.Answer.{refused, of_result, next}
use Rattle.type_numbers.specs.Refusal.{number_of}
use Rattle.std.specs.Prelude.{Result, Err, Option, Some, None, is_some}
use Rattle.type_layers.proofs.Words.{part, part-is}
use Rattle.type_checks.specs.Check.{check_of}
use Rattle.type_layers.specs.declared.answers.Refused.{Refused}
use Rattle.symbol_columns.specs.declared.table.Table.{Table}
use Rattle.symbol_columns.specs.Table.{records}
use Rattle.symbol_columns.specs.AsCoded.{read_from}
use Rattle.symbol_lent.specs.AsCoded.{gathered}
use Rattle.symbol_order.specs.Order.{in_order}
use Rattle.symbol_columns.specs.declared.symbol.Symbol.{Symbol}
use Rattle.symbol_columns.proofs.Reading.{length-read}
use Rattle.symbol_lent.proofs.Gathering.{swapped}
use Rattle.symbol_order.proofs.Ordered.{ordered, too_long}
use Rattle.plan_steps.specs.Steps.{Step, steps, steps_answer}
use Rattle.plan_steps.specs.AsCoded.{step_at}
use Rattle.plan_steps.proofs.Words.{steps-none, steps-more}
use Rattle.symbol_members.specs.Member.{Stored}
use Rattle.symbol_members.specs.Members.{of_layers, member_words, members}
use Rattle.symbol_members.specs.AsCoded.{member_in}
use Rattle.walker_rule.specs.Walker.{at, stuck}
use Rattle.walker_rule.specs.AsCoded.{asked_in}
use Rattle.walker_step.specs.AsCoded.{move_of, seen, onward, desliced, moved, Current}
use Rattle.walker_step.specs.declared.step_move.Move.{Move}
use Rattle.symbol_members.proofs.Storing.{member-whole}
use Rattle.walker_step.proofs.Acting.{acts, moves-on}
use Rattle.write_type.specs.Outcome.{delivered, told, over, Writes}
use Rattle.walker_arrival.specs.Arrived.{addressed}
use Rattle.walker_run.specs.Walked.{unless_stuck, walked_from, walk_from, walk_ordered, walk_to}

-- a member of at most 128 rows
pub at_most : (ws store : List ℕ) (n id : ℕ) → n ≤ 128 → member_in ws n store id ≡ member_words (read_from ws 0 n) store id
unfolding member_in
at_most ws store n id h = rw (le-ltb 128 n h)

-- where the walker is after a move, by whether there is one
module _ (ws m : List ℕ) where
  no_move : (x : Option Move) → is_some x ≡ false → moved x ws m ≡ stuck
  unfolding moved
  no_move None e = refl
  no_move (Some v) e = absurd (false≢true (sym e))

  a_move : (x : Option Move) → is_some x ≡ true → moved x ws m ≡ at (seen (onward x ws m) (desliced x))
  unfolding moved
  a_move None e = absurd (false≢true e)
  a_move (Some v) e = refl

-- what the walker knows before a step: the words from there on are left
module _ (table : Table) where
  abbrev stored : ℕ → Stored
  stored = members (records table) table.store.now

  abbrev asked : Step → List ℕ
  asked a = asked_in table.columns.now table.count table.store.now a.kind a.handle

  pub record Reached (known ws cur : List ℕ) (b : Bool) (rest : List ℕ) (place : ℕ) : Type 0 where
    pub count : 4 * place + length rest ≡ length ws
    pub current : Current cur b
    pub same : walked_from stored place (steps rest) (seen cur b) ≡ walked_from stored 0 (steps ws) (layers known)

  pub start : (known ws : List ℕ) → Whole known → Reached known ws known false ws 0
  unfolding seen
  start known ws w = record { count = omega arith; current = (w, λ f. absurd (false≢true f)); same = refl }

  module _ (o : in_order (records table) table.store.now ≡ true) where
    few : table.count ≤ 128
    few = rw (length-read table.columns.now 0 table.count) at (ordered (records table) table.store.now o).few

    -- the member that a step asks for
    asked_is : (a : Step) (m : List ℕ) → m ≡ asked a → a.kind ≡ 1 → stored a.handle ≡ of_layers (layers m)
    unfolding members asked_in
    asked_is a m e f = rw (e, eq-eqb a.kind 1 f, at_most table.columns.now table.store.now table.count a.handle few)

    asked-whole : (a : Step) (m : List ℕ) → m ≡ asked a → Whole m
    unfolding asked_in
    asked-whole a m e = rw e (by_kind (eqb a.kind 1))
      where
        by_kind : (f : Bool) → Whole (cond f (member_in table.columns.now table.count table.store.now a.handle) [])
        by_kind true = rw (at_most table.columns.now table.store.now table.count a.handle few) (member-whole (records table) table.store.now a.handle o)
        by_kind false = record { whole = refl; few = omega arith }

    -- one step: k is the outer kind, l the kind inside, m the member's words, x the move
    module _ (known ws cur : List ℕ) (b : Bool) (rest : List ℕ) (place : ℕ) (r : Reached known ws cur b rest place) (h : 4 ≤ length rest)
        (a : Step) (is : a ≡ step_at rest) (m i : List ℕ) (k l : ℕ) (x : Option Move)
        (e : m ≡ asked a) (f : k ≡ outer (seen cur b)) (g : i ≡ drop 3 cur) (j : l ≡ outer (layers i)) (q : x ≡ move_of a.kind a.mark k l (leb 3 (length m))) where
      is_move : x ≡ move_of a.kind a.mark (outer (seen cur b)) (outer (layers (drop 3 cur))) (leb 3 (length m))
      is_move = q ∙ rw (f, j, g)

      stepped : unless_stuck (moved x cur m) place (walked_from stored (place + 1) (steps (drop 4 rest))) ≡ walked_from stored 0 (steps ws) (layers known)
      unfolding walked_from
      stepped = rw (is_move, ← acts cur m b stored a (asked_is a m e)) (rw (steps-more rest h, ← is) at r.same)

      module _ (none : Bool) (so : is_some x ≡ not none) where
        pub sticks-here : none ≡ true → refused 8 place ≡ walked_from stored 0 (steps ws) (layers known)
        sticks-here t = rw (no_move cur m x (rw t at so)) at stepped

        pub goes_on : none ≡ false → (next : List ℕ) (d : Bool) (rest' : List ℕ) → next ≡ onward x cur m → d ≡ desliced x → rest' ≡ part rest 4 →
            Reached known ws next d rest' (place + 1)
        goes_on t next d rest' u w z =
            record {
              count = rw (z, part-is rest 4, length-drop) (omega (arith, r.count));
              current =
                  rw (u, w)
                  (moves-on cur m b a.kind a.mark (outer (layers (drop 3 cur))) (leb 3 (length m)) x is_move r.current.0 (asked-whole a m e));
              same = rw (z, part-is rest 4, u, w) (rw (a_move cur m x (rw t at so)) at stepped);
            }

  -- what is written in the end
  module _ (known ws : List ℕ) (address : Bool) (out : List ℕ) where
    pub writes-stuck : (x : Refused) → refused (number_of x.refusal) x.place ≡ walked_from stored 0 (steps ws) (layers known) →
        Writes (walk_from known ws address (records table) table.store.now) (Err x) out out
    unfolding walk_from delivered told over
    writes-stuck x e = rw (← e) (refl, refl)

    pub writes-arrived : (cur out' rest : List ℕ) (b : Bool) (place : ℕ) (a : Result ℕ Refused) → Reached known ws cur b rest place → length rest < 4 →
        Writes (paper.given (addressed address (seen cur b))) a out out' → Writes (walk_from known ws address (records table) table.store.now) a out out'
    unfolding walk_from walked_from
    writes-arrived cur out' rest b place a r h t = rw (← r.same, steps-none rest h) t

-- the same is written
module _ (out : List ℕ) (v w : paper.Answer (List Layer)) where
  pub writes-same : (a : Result ℕ Refused) (out' : List ℕ) → Writes v a out out' → v ≡ w → Writes w a out out'
  writes-same a out' t e = rw (← e) t

pub writes-refused : (out : List ℕ) (w : paper.Answer (List Layer)) (r : Result ℕ Refused) (x : Refused) → r ≡ Err x → refused (number_of x.refusal) x.place ≡ w → Writes w r out out
unfolding delivered told over
writes-refused out w r x q e = rw (← e, q) (refl, refl)

-- by what the checks said
module _ (known ws store : List ℕ) (address : Bool) (table : List Symbol) where
  pub no-type : (e : Refused) → refused (number_of e.refusal) e.place ≡ check_of known → refused (number_of e.refusal) e.place ≡ walk_to known ws address table store
  unfolding walk_to
  no-type e q = rw (← q)

  module _ (i : ℕ) (t : paper.given i ≡ check_of known) where
    pub no_steps : (e : Refused) → refused (number_of e.refusal) e.place ≡ steps_answer 128 ws → refused (number_of e.refusal) e.place ≡ walk_to known ws address table store
    unfolding walk_to
    no_steps e q = rw (← t, ← q)

    module _ (j : ℕ) (u : paper.given j ≡ steps_answer 128 ws) (f : Bool) (o : f ≡ in_order table store) where
      pub not-ordered : f ≡ false → refused 12 0 ≡ walk_to known ws address table store
      unfolding walk_to walk_ordered
      not-ordered e = rw (← t, ← u, ← o, e)

      pub is-ordered : f ≡ true → walk_from known ws address table store ≡ walk_to known ws address table store
      unfolding walk_to walk_ordered
      is-ordered e = rw (← t, ← u, ← o, e)

-- the walk with the columns of a table is the walk with the table
pub walk_same : (known ws store : List ℕ) (address : Bool) (table : List Symbol) →
    walk_to known ws address (read_from (gathered table) 0 (length table)) store ≡ walk_to known ws address table store
unfolding walk_to walk_ordered
walk_same known ws store address table =
    swapped table (λ (l : List Symbol). walk_to known ws address l store) (next (check_of known) (next (steps_answer 128 ws) (refused 12 0)))
    (λ l e h. rw (too_long l store h))
