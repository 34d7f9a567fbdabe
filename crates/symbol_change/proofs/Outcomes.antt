-- The change that the core hands back is the outcome: its answer, the store, and the table with the record in its slot.
-- Assumes nothing.
use mathlib.Core.Path.{◌≡◌, refl, sym, ap, subst, ◌∙◌}
use mathlib.Core.Bool.{Bool, true, false, cond, not, true≢false}
use mathlib.Core.List.{List, [], ◌∷◌}
use Prim.Native.Nat.{ℕ, zero, suc, ◌<◌}
use Rattle.std.proofs.Common.{Some, None}
use lib.Dec.{eqb}
use lib.ListN.{length, get_or, set}
use borrow.Author.Tests.{eqb-true}
use Rattle.symbol_columns.specs.declared.symbol.Symbol.{Symbol}
use Rattle.symbol_columns.specs.Record.{vacant}
use Rattle.symbol_columns.specs.StoredWords.{slot_words}
use Rattle.write_answer.specs.declared.answer.Answer.{Answer}
use Rattle.symbol_update.specs.Update.{updated}
use Rattle.symbol_update.proofs.Theorems.{unchanged}
use Rattle.symbol_operations.specs.Act as act
use Rattle.symbol_operations.specs.Act.{Act}
use Rattle.symbol_operations.specs.Operation.{Operation, put_nothing, acts}
use Rattle.symbol_slot.specs.Way as way
use Rattle.symbol_slot.specs.Way.{Way}
use Rattle.symbol_slot.specs.Slot.{way_of}
use Rattle.symbol_slot.proofs.Decided.{found_in, new_in}
use Rattle.symbol_record.specs.Deed.{Deed, overwrites}
use Rattle.symbol_change.specs.Change.{outcome_by, outcome}
use Rattle.symbol_change.specs.AsCoded.{Chosen, nowhere, in_slot, is_changed, change_by, change_of, store_of}

-- a list with one of its elements put in its place
set_same : {A : Type 0} (l : List A) (i : ℕ) (d : A) → set l i (get_or l i d) ≡ l
set_same [] i d = refl
set_same (x ∷ xs) zero d = refl
set_same (x ∷ xs) (suc i) d = ap (λ (ys : List _). x ∷ ys) (set_same xs i d)

-- an answer that tells of no change
not-changed : (a : Answer) → is_changed a ≡ false → a.refusal ≡ 0 → a.value ≡ 0
not-changed a e h = by_value (eqb a.value 0) refl (rw h at e)
  where
    by_value : (t : Bool) → eqb a.value 0 ≡ t → not t ≡ false → a.value ≡ 0
    by_value true f g = eqb-true a.value 0 f
    by_value false f g = absurd (true≢false g)

some-is : (x y : ℕ × Symbol) → Some x ≡ Some y → x ≡ y
some-is x y e = cc

-- an act
module _ (a : Act) (id : ℕ) (authority : Bool) (place mark : ℕ) (offered : List ℕ) (table : List Symbol) (store : List ℕ) where
  abbrev by : Way → Chosen
  by w = change_by w a id authority place mark offered table store

  abbrev done : ℕ → Deed
  done k = overwrites a (get_or table k vacant) (slot_words store k) id authority place mark offered

  answer-by : (w : Way) → (by w).answer ≡ (outcome_by w a id authority place mark offered table store).answer
  answer-by (way.refused n p) = refl
  answer-by (way.found k) = by-test (is_changed (done k).answer)
    where
      by-test : (t : Bool) → (cond t (in_slot k (done k).symbol (done k).answer) (nowhere (done k).answer)).answer ≡ (done k).answer
      by-test true = refl
      by-test false = refl
  answer-by (way.free k) = refl

  -- where nothing changed, the record is what it was
  same-record : (x : Act) (s : Symbol) (ws : List ℕ) → is_changed (overwrites x s ws id authority place mark offered).answer ≡ false →
      (overwrites x s ws id authority place mark offered).symbol ≡ s
  same-record act.put_poison s ws e = absurd (true≢false e)
  same-record act.put_type s ws e =
      (unchanged s ws id authority place offered (not-changed (updated s ws id authority place offered).answer e)).0
  same-record act.forward_poison s ws e = absurd (true≢false e)
  same-record act.forward_type s ws e = absurd (true≢false e)

  -- where no record is stored, the table is what it was
  inside-or : (w : Way) → (by w).stored ≡ None → table ≡ (outcome_by w a id authority place mark offered table store).table
  inside-or (way.refused n p) q = refl
  inside-or (way.found k) q = by-test (is_changed (done k).answer) refl q
    where
      by-test : (t : Bool) → is_changed (done k).answer ≡ t →
          (cond t (in_slot k (done k).symbol (done k).answer) (nowhere (done k).answer)).stored ≡ None → table ≡ set table k (done k).symbol
      by-test true f g = cc
      by-test false f g = sym (ap (set table k) (same-record a (get_or table k vacant) (slot_words store k) f) ∙ set_same table k vacant)
  inside-or (way.free k) q = cc

  -- where one is, it is stored in its slot, which is within the table
  module _ (k : ℕ) (s : Symbol) where
    set-by : (w : Way) → (by w).stored ≡ Some (k, s) → set table k s ≡ (outcome_by w a id authority place mark offered table store).table
    set-by (way.refused n p) q = cc
    set-by (way.found j) q = by-test (is_changed (done j).answer) q
      where
        by-test : (t : Bool) → (cond t (in_slot j (done j).symbol (done j).answer) (nowhere (done j).answer)).stored ≡ Some (k, s) →
            set table k s ≡ set table j (done j).symbol
        by-test true f = sym (ap (λ (x : ℕ × Symbol). set table x.0 x.1) (some-is (j, (done j).symbol) (k, s) f))
        by-test false f = cc
    set-by (way.free j) q = sym (ap (λ (x : ℕ × Symbol). set table x.0 x.1) (some-is _ (k, s) q))

    within-by : (w : Way) → way_of a id offered table store ≡ w → (by w).stored ≡ Some (k, s) → k < length table
    within-by (way.refused n p) e q = cc
    within-by (way.found j) e q = by-test (is_changed (done j).answer) q
      where
        by-test : (t : Bool) → (cond t (in_slot j (done j).symbol (done j).answer) (nowhere (done j).answer)).stored ≡ Some (k, s) → k < length table
        by-test true f = subst (λ (x : ℕ × Symbol). x.0 < length table) (some-is (j, (done j).symbol) (k, s) f) (found_in a id offered table store j e).below
        by-test false f = cc
    within-by (way.free j) e q =
        subst (λ (x : ℕ × Symbol). x.0 < length table) (some-is _ (k, s) q) (new_in a id offered table store j e).below

module _ (op : Operation) (id : ℕ) (authority : Bool) (place mark : ℕ) (offered : List ℕ) (table : List Symbol) (store : List ℕ) where
  abbrev change : Operation → Chosen
  change o = change_of o id authority place mark offered table store

  pub answer-is : (change op).answer ≡ (outcome op id authority place mark offered table store).answer
  unfolding change_of outcome
  answer-is = by-operation op
    where
      by-operation : (o : Operation) → (change o).answer ≡ (outcome o id authority place mark offered table store).answer
      by-operation put_nothing = refl
      by-operation (acts a) = answer-by a id authority place mark offered table store (way_of a id offered table store)

  pub store_is : store_of op id authority place mark offered table store ≡ (outcome op id authority place mark offered table store).store
  unfolding store_of
  store_is = refl

  pub table_kept : (change op).stored ≡ None → table ≡ (outcome op id authority place mark offered table store).table
  unfolding change_of outcome
  table_kept = by-operation op
    where
      by-operation : (o : Operation) → (change o).stored ≡ None → table ≡ (outcome o id authority place mark offered table store).table
      by-operation put_nothing q = refl
      by-operation (acts a) q = inside-or a id authority place mark offered table store (way_of a id offered table store) q

  module _ (k : ℕ) (s : Symbol) where
    pub table_set : (change op).stored ≡ Some (k, s) → set table k s ≡ (outcome op id authority place mark offered table store).table
    unfolding change_of outcome
    table_set = by-operation op
      where
        by-operation : (o : Operation) → (change o).stored ≡ Some (k, s) → set table k s ≡ (outcome o id authority place mark offered table store).table
        by-operation put_nothing q = cc
        by-operation (acts a) q = set-by a id authority place mark offered table store k s (way_of a id offered table store) q

    pub stored_within : (change op).stored ≡ Some (k, s) → k < length table
    unfolding change_of
    stored_within = by-operation op
      where
        by-operation : (o : Operation) → (change o).stored ≡ Some (k, s) → k < length table
        by-operation put_nothing q = cc
        by-operation (acts a) q = within-by a id authority place mark offered table store k s (way_of a id offered table store) refl q
