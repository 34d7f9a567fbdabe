-- From the core, which sees a table's columns, to the table.
-- Assumes nothing.
use mathlib.Core.Path.{◌≡◌, refl, sym, ap, ◌∙◌}
use mathlib.Core.Bool.{Bool, true}
use mathlib.Core.List.{List, []}
use Prim.Native.Nat.{ℕ, ◌<◌}
use lib.ListN.{length, set}
use Rattle.std.proofs.Common.{Option, Some, None}
use Rattle.type_layers.specs.Answer as paper
use Rattle.type_layers.specs.Answer.{given, nothing, refused}
use Rattle.symbol_columns.specs.declared.symbol.Symbol.{Symbol}
use Rattle.symbol_columns.specs.AsCoded.{read_from}
use Rattle.symbol_lent.specs.AsCoded.{gathered}
use Rattle.symbol_lent.proofs.Gathering.{swapped}
use Rattle.symbol_order.proofs.Ordered.{too_long}
use Rattle.write_answer.specs.declared.answer.Answer.{Answer}
use Rattle.write_answer.specs.Flat.{not_accepted}
use Rattle.symbol_operations.specs.Act.{Act}
use Rattle.symbol_operations.specs.Operation.{Operation, put_nothing, acts}
use Rattle.symbol_slot.specs.Slot.{offered_check, place_of, unless, way_of}
use Rattle.symbol_slot.specs.Way as way
use Rattle.symbol_slot.specs.Way.{Way}
use Rattle.symbol_change.specs.Change.{Outcome, outcome_by, outcome}
use Rattle.symbol_change.proofs.Outcomes.{answer-is, store_is, table_kept, table_set, stored_within}
use Rattle.symbol_change.specs.AsCoded.{Chosen, nowhere, change_by, change_of, store_of}
use Rattle.symbol_get.specs.Get.{got, type_in, type_of}
use Rattle.symbol_get.specs.Got as got'
use Rattle.symbol_get.specs.Got.{Got}

module _ (id : ℕ) (authority : Bool) (place mark : ℕ) (offered : List ℕ) (table : List Symbol) (store : List ℕ) where
  -- a table that is too long is refused, whatever it holds
  refused-by : paper.Answer ℕ → Chosen
  refused-by (refused n p) = nowhere (not_accepted n p)
  refused-by (given n) = nowhere (not_accepted 12 0)
  refused-by nothing = nowhere (not_accepted 12 0)

  refuses : Operation → Chosen
  refuses put_nothing = nowhere (not_accepted 12 0)
  refuses (acts a) = refused-by (offered_check a offered)

  long-way : (a : Act) (l : List Symbol) → 128 < length l → way_of a id offered l store ≡ unless (offered_check a offered) (way.refused 12 0)
  unfolding way_of place_of
  long-way a l h = rw (too_long l store h)

  long-change : (op : Operation) (l : List Symbol) → length l ≡ length table → 128 < length l →
      change_of op id authority place mark offered l store ≡ refuses op
  unfolding change_of refuses refused-by
  long-change put_nothing l e h = rw (too_long l store h)
  long-change (acts a) l e h = rw (long-way a l h) (by-check (offered_check a offered))
    where
      by-check : (c : paper.Answer ℕ) → change_by (unless c (way.refused 12 0)) a id authority place mark offered l store ≡ refused-by c
      by-check (refused n p) = refl
      by-check (given n) = refl
      by-check nothing = refl

  long-store : (op : Operation) (l : List Symbol) → length l ≡ length table → 128 < length l →
      store_of op id authority place mark offered l store ≡ store
  unfolding store_of outcome
  long-store put_nothing l e h = refl
  long-store (acts a) l e h =
      ap (λ (w : Way). (outcome_by w a id authority place mark offered l store).store) (long-way a l h) ∙ by-check (offered_check a offered)
    where
      by-check : (c : paper.Answer ℕ) → (outcome_by (unless c (way.refused 12 0)) a id authority place mark offered l store).store ≡ store
      by-check (refused n p) = refl
      by-check (given n) = refl
      by-check nothing = refl

-- what the core says of the columns, it says of the table
module _ (op : Operation) (id : ℕ) (authority : Bool) (place mark : ℕ) (offered : List ℕ) (table : List Symbol) (store : List ℕ) where
  pub change-same : change_of op id authority place mark offered (read_from (gathered table) 0 (length table)) store
      ≡ change_of op id authority place mark offered table store
  change-same =
      swapped table (λ l. change_of op id authority place mark offered l store) (refuses id authority place mark offered table store op)
      (long-change id authority place mark offered table store op)

  pub store_same : store_of op id authority place mark offered (read_from (gathered table) 0 (length table)) store
      ≡ store_of op id authority place mark offered table store
  store_same =
      swapped table (λ l. store_of op id authority place mark offered l store) store (long-store id authority place mark offered table store op)

  -- what it says of gathered columns, too
  pub chosen : (flat : List ℕ) (r : Chosen) (after : List ℕ) → flat ≡ gathered table →
      (r ≡ change_of op id authority place mark offered (read_from flat 0 (length table)) store)
      × (after ≡ store_of op id authority place mark offered (read_from flat 0 (length table)) store) →
      (r ≡ change_of op id authority place mark offered table store) × (after ≡ store_of op id authority place mark offered table store)
  chosen flat r after g h = (
    h.0 ∙ ap (λ (ws : List ℕ). change_of op id authority place mark offered (read_from ws 0 (length table)) store) g ∙ change-same,
    h.1 ∙ ap (λ (ws : List ℕ). store_of op id authority place mark offered (read_from ws 0 (length table)) store) g ∙ store_same,
  )

-- what becomes of the lent table and its store, by what the core chose
module _ (op : Operation) (id : ℕ) (authority : Bool) (place mark : ℕ) (offered : List ℕ) (table : List Symbol) (store flat after : List ℕ)
    (g : flat ≡ gathered table) (r : Chosen)
    (h : (r ≡ change_of op id authority place mark offered (read_from flat 0 (length table)) store)
    × (after ≡ store_of op id authority place mark offered (read_from flat 0 (length table)) store)) where
  abbrev becomes : Outcome
  becomes = outcome op id authority place mark offered table store

  is : (r ≡ change_of op id authority place mark offered table store) × (after ≡ store_of op id authority place mark offered table store)
  is = chosen op id authority place mark offered table store flat r after g h

  pub answered : (a : Answer) → a ≡ r.answer → a ≡ becomes.answer
  answered a q = q ∙ ap (λ (x : Chosen). x.answer) is.0 ∙ answer-is op id authority place mark offered table store

  pub store-changed : after ≡ becomes.store
  store-changed = is.1 ∙ store_is op id authority place mark offered table store

  stored-is : (o : Option (ℕ × Symbol)) → r.stored ≡ o → (change_of op id authority place mark offered table store).stored ≡ o
  stored-is o q = sym (ap (λ (x : Chosen). x.stored) is.0) ∙ q

  pub table-kept : (t : List Symbol) → r.stored ≡ None → t ≡ table → t ≡ becomes.table
  table-kept t q e = e ∙ table_kept op id authority place mark offered table store (stored-is None q)

  module _ (k : ℕ) (s : Symbol) (q : r.stored ≡ Some (k, s)) where
    pub table-changed : (t : List Symbol) → t ≡ set table k s → t ≡ becomes.table
    table-changed t e = e ∙ table_set op id authority place mark offered table store k s (stored-is (Some (k, s)) q)

    pub slot_within : k < length table
    slot_within = stored_within op id authority place mark offered table store k s (stored-is (Some (k, s)) q)

-- get
module _ (id : ℕ) (table : List Symbol) (store : List ℕ) where
  long-got : (authority : Bool) (l : List Symbol) → length l ≡ length table → 128 < length l → got id authority l store ≡ got'.refused 12 0
  unfolding got
  long-got authority l e h = rw (too_long l store h)

  pub got_same : (authority : Bool) → got id authority (read_from (gathered table) 0 (length table)) store ≡ got id authority table store
  got_same authority = swapped table (λ l. got id authority l store) (got'.refused 12 0) (long-got authority)

  long-type : (l : List Symbol) → length l ≡ length table → 128 < length l → type_of id l store ≡ []
  unfolding type_of
  long-type l e h = ap (λ (x : Got). type_in x l store) (long-got true l e h)

  pub type-same : type_of id (read_from (gathered table) 0 (length table)) store ≡ type_of id table store
  type-same = swapped table (λ l. type_of id l store) [] long-type
