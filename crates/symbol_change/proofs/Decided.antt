-- What is done to the record of a slot that was chosen, as the core meets it: in a table that is read out of columns.
-- Assumes nothing.
use mathlib.Core.Path.{◌≡◌, sym, ap, subst, ◌∙◌}
use mathlib.Core.Bool.{Bool, false, true}
use mathlib.Core.List.{List, ◌++◌}
use Prim.Native.Nat.{ℕ, ◌+◌, ◌-◌, ◌*◌, ◌≤◌, ◌<◌}
use native.Mathlib.Omega.{arith}
use lib.Dec.{eqb}
use lib.ListN.{length, take, drop, get_or}
use borrow.Author.Tests.{ne_eqb}
use Rattle.std.specs.Prelude.{Ok, Result, Err}
use Rattle.type_numbers.specs.Refusal.{number_of}
use Rattle.type_layers.specs.declared.answers.Refused.{Refused}
use Rattle.symbol_columns.specs.declared.symbol.Symbol.{Symbol}
use Rattle.symbol_columns.specs.Record.{vacant}
use Rattle.symbol_columns.specs.AsCoded.{read_from, row_under}
use Rattle.symbol_columns.proofs.Reading.{length-read, row-found}
use Rattle.write_answer.specs.declared.answer.Answer.{Answer}
use Rattle.write_answer.specs.Flat.{accepted, not_accepted}
use Rattle.symbol_update.proofs.Told.{numbered}
use Rattle.symbol_operations.specs.Act.{Act}
use Rattle.symbol_operations.specs.Operation.{acts}
use Rattle.symbol_slot.specs.Way as way
use Rattle.symbol_slot.specs.Slot.{way_of}
use Rattle.symbol_slot.specs.AsCoded.{of_way}
use Rattle.symbol_slot.specs.declared.slot.Way.{Way}
use Rattle.symbol_slot.specs.declared.slot.Way.TheVariants as code
use Rattle.symbol_slot.proofs.Decided.{Within, found_in, found-has, new_in}
use Rattle.symbol_record.specs.Deed.{Deed, filled, filled_words, overwrites}
use Rattle.symbol_change.specs.Change.{outcome_by, outcome, nothing_put}
use Rattle.symbol_change.specs.AsCoded.{Chosen, nowhere, in_slot, if_changed, change_of, store_of}
use Rattle.symbol_order.specs.Order.{in_order}

-- a put with nothing into a table that is in order
pub is-accepted : (table : List Symbol) (store : List ℕ) (o : Bool) → o ≡ in_order table store → (a : Answer) (r : Chosen) → o ≡ true →
    a ≡ accepted 0 → r ≡ nowhere a → r ≡ nowhere (nothing_put table store)
is-accepted table store o e a r f h q = rw (← e, f, ← h) q

-- an act that is refused leaves the store
pub kept-refused : (act : Act) (id : ℕ) (authority : Bool) (place mark : ℕ) (offered : List ℕ) (table : List Symbol) (store : List ℕ) (x : Result Way Refused) →
    of_way x ≡ way_of act id offered table store → (r : Refused) → x ≡ Err r → store ≡ store_of (acts act) id authority place mark offered table store
unfolding store_of outcome
kept-refused act id authority place mark offered table store x e r h =
    ap (λ (w : way.Way). (outcome_by w act id authority place mark offered table store).store) (ap of_way (sym h) ∙ e)

module _ (act : Act) (id : ℕ) (offered flat : List ℕ) (n : ℕ) (store : List ℕ) (w : Way)
    (e : of_way (Ok w) ≡ way_of act id offered (read_from flat 0 n) store) (k : ℕ) where
  abbrev table : List Symbol
  table = read_from flat 0 n

  -- the slot's part, as the code lends it
  abbrev lent : List ℕ
  lent = take (k * 48 + 48 - k * 48) (drop (k * 48) store)

  one-slot : k * 48 + 48 - k * 48 ≡ 48
  one-slot = omega arith

  abbrev with : List ℕ → List ℕ
  with after = take (k * 48) store ++ (after ++ drop (k * 48 + 48 - k * 48) (drop (k * 48) store))

  store_by : (v : way.Way) → v ≡ way_of act id offered table store → (authority : Bool) (place mark : ℕ) →
      (outcome_by v act id authority place mark offered table store).store ≡ store_of (acts act) id authority place mark offered table store
  unfolding store_of outcome
  store_by v h authority place mark = ap (λ (x : way.Way). (outcome_by x act id authority place mark offered table store).store) h

  near : Within table store k → (k < 128) × (k * 48 + 48 ≤ length store)
  near i =
      let m = length-read flat 0 n in
      (omega (arith, i.below, i.order.few), omega (arith, i.below, i.order.full))

  module _ (h : w ≡ code.Found k) where
    way-is : way.found k ≡ way_of act id offered table store
    way-is = ap (λ (x : Way). of_way (Ok x)) (sym h) ∙ e

    found : Within table store k
    found = found_in act id offered table store k (sym way-is)

    pub found_below : k < 128
    found_below = (near found).0

    pub found_part : k * 48 + 48 ≤ length store
    found_part = (near found).1

    row_is : (s : Symbol) → s ≡ row_under flat k id → s ≡ get_or table k vacant
    row_is s q =
        let m = length-read flat 0 n in
        row-found flat n id k s (subst (λ (j : ℕ). j ≤ 128) m found.order.few) (subst (λ (j : ℕ). k < j) m found.below)
        (found-has act id offered table store k (sym way-is)) q

    module _ (authority : Bool) (place mark : ℕ) (s : Symbol) (q : s ≡ row_under flat k id) where
      abbrev done : Deed
      done = overwrites act s lent id authority place mark offered

      pub chose-found : (r : Chosen) (t : Symbol) (a : Answer) → a ≡ done.answer → t ≡ done.symbol → r ≡ if_changed k t a →
          r ≡ change_of (acts act) id authority place mark offered table store
      unfolding change_of
      chose-found r t a f g i = i ∙ rw (f, g, ← way-is, one-slot, row_is s q)

      pub kept-found : (after : List ℕ) → after ≡ done.words → with after ≡ store_of (acts act) id authority place mark offered table store
      kept-found after g = rw (g, one-slot, row_is s q) (store_by (way.found k) way-is authority place mark)

  module _ (h : w ≡ code.Free k) where
    new-way-is : way.free k ≡ way_of act id offered table store
    new-way-is = ap (λ (x : Way). of_way (Ok x)) (sym h) ∙ e

    new : Within table store k
    new = new_in act id offered table store k (sym new-way-is)

    pub new_below : k < 128
    new_below = (near new).0

    pub new_part : k * 48 + 48 ≤ length store
    new_part = (near new).1

    module _ (authority : Bool) (place mark : ℕ) where
      pub chose-new : (s : Symbol) → s ≡ filled act id authority place mark offered →
          in_slot k s (accepted 3) ≡ change_of (acts act) id authority place mark offered table store
      unfolding change_of
      chose-new s q = rw (← new-way-is, q)

      pub kept-new : (after : List ℕ) → after ≡ filled_words act offered lent → with after ≡ store_of (acts act) id authority place mark offered table store
      kept-new after g = rw (g, one-slot) (store_by (way.free k) new-way-is authority place mark)

-- an update that is refused stores nothing
pub refused-stays : (k : ℕ) (s : Symbol) (x : Refused) →
    nowhere (not_accepted (number_of x.refusal) x.place) ≡ if_changed k s (not_accepted (number_of x.refusal) x.place)
refused-stays k s x =
    let f : eqb (number_of x.refusal) 0 ≡ false = ne_eqb (number_of x.refusal) 0 (λ q. omega (arith, q, numbered x.refusal)) in
    rw f
