-- What is known of a table that is in order, sentence by sentence; and that these sentences make it so.
-- Assumes nothing.
use mathlib.Core.Path.{◌≡◌, refl, subst}
use mathlib.Core.Bool.{true, false, not, ◌&&◌}
use mathlib.Core.List.{List, [], ◌∷◌}
use Prim.Native.Nat.{ℕ, zero, suc, ◌+◌, ◌*◌, ◌≤◌, ◌<◌}
use native.Mathlib.Omega.{arith}
use lib.Dec.{leb, eqb}
use lib.ListN.{length, take, drop, get_or}
use lib.Seq.{drop-drop}
use borrow.Author.Tests.{lt-leb, leb-true, eqb-true, le-leb, eq-eqb, not-true}
use Rattle.type_layers.proofs.Decide.{both}
use Rattle.symbol_columns.specs.Record.{vacant, free}
use Rattle.symbol_columns.specs.AsCoded.{read_from}
use Rattle.symbol_columns.specs.StoredWords.{slot_words}
use Rattle.symbol_search.specs.Search.{slot_for, first_free}
use Rattle.symbol_search.specs.AsCoded.{slot_in, free_in}
use Rattle.symbol_columns.proofs.Reading.{length-read}
use Rattle.symbol_search.proofs.Searching.{slot_is, free-is}
use Rattle.symbol_order.specs.Order.{known_states, all_free, taken_first, taken, repeats, passes, all_pass, in_order}
use Rattle.symbol_columns.specs.declared.symbol.Symbol.{Symbol}

pub record Ordered (table : List Symbol) (store : List ℕ) : Type 0 where
  pub few : length table ≤ 128
  pub states : known_states table ≡ true
  pub first : taken_first table ≡ true
  pub ids : repeats (taken table) ≡ false
  pub pass : all_pass table store ≡ true
  pub full : length store ≡ length table * 48

module _ (table : List Symbol) (store : List ℕ) where
  pub ordered : in_order table store ≡ true → Ordered table store
  unfolding in_order
  ordered e =
      let a = leb (length table) 128 in
      let b = known_states table in
      let c = taken_first table in
      let d = not (repeats (taken table)) in
      let f = all_pass table store in
      let g = eqb (length store) (length table * 48) in
      let e5 = both (a && b && c && d && f) g e in
      let e4 = both (a && b && c && d) f e5.0 in
      let e3 = both (a && b && c) d e4.0 in
      let e2 = both (a && b) c e3.0 in
      let e1 = both a b e2.0 in
      record {
        few = leb-true (length table) 128 e1.0;
        states = e1.1;
        first = e2.1;
        ids = not-true (repeats (taken table)) e3.1;
        pass = e4.1;
        full = eqb-true (length store) (length table * 48) e5.1;
      }

  pub in_order_lem : Ordered table store → in_order table store ≡ true
  unfolding in_order
  in_order_lem o =
      rw (le-leb (length table) 128 o.few, o.states, o.first, o.ids, o.pass, eq-eqb (length store) (length table * 48) o.full)

-- free records only: none is taken
pub none-taken : (table : List Symbol) → all_free table ≡ true → taken table ≡ []
unfolding all_free taken
none-taken [] e = refl
none-taken (s ∷ table) e =
    let p = both (free s) (all_free table) e in
    rw p.0 (none-taken table p.1)

-- a record's own words pass
pub pass-at : (table : List Symbol) (store : List ℕ) (k : ℕ) → all_pass table store ≡ true →
    passes (get_or table k vacant).state (get_or table k vacant).layers (slot_words store k) ≡ true
unfolding all_pass passes
pass-at [] store k e = refl
pass-at (x ∷ table) store zero e = (both (passes x.state x.layers (take 48 store)) (all_pass table (drop 48 store)) e).0
pass-at (x ∷ table) store (suc k) e =
    let m : suc k * 48 ≡ 48 + k * 48 = omega arith in
    rw (m, ← drop-drop (k * 48) 48 store)
    (pass-at table (drop 48 store) k (both (passes x.state x.layers (take 48 store)) (all_pass table (drop 48 store)) e).1)

-- a table of more than 128 records is not in order
pub too_long : (table : List Symbol) (store : List ℕ) → 128 < length table → in_order table store ≡ false
unfolding in_order
too_long table store h = rw (lt-leb (length table) 128 h)

-- rows that are in order are few, and the searches through them are those through the records
module _ (ws w : List ℕ) (n : ℕ) (o : in_order (read_from ws 0 n) w ≡ true) where
  pub few-rows : n ≤ 128
  few-rows = subst (λ (m : ℕ). m ≤ 128) (length-read ws 0 n) (ordered (read_from ws 0 n) w o).few

  pub slot-there : (id k : ℕ) → k ≡ slot_in ws n id → k ≡ slot_for id (read_from ws 0 n)
  slot-there id k q = slot_is ws n id k few-rows q

  pub free-there : (k : ℕ) → k ≡ free_in ws n → k ≡ first_free (read_from ws 0 n)
  free-there k q = free-is ws n k few-rows q
