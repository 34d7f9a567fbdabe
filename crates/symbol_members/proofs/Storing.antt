-- What a table has stored under an id.
-- Assumes nothing.
use mathlib.Core.Path.{◌≡◌, refl, sym, ap, ◌∙◌}
use mathlib.Core.Bool.{Bool, true, false, cond}
use mathlib.Core.List.{List, []}
use Prim.Native.Nat.{ℕ, ◌+◌, ◌≤◌, ◌<◌}
use native.Mathlib.Nat.{zero-add}
use native.Mathlib.Omega.{arith}
use lib.Dec.{ltb}
use lib.ListN.{length, get_or, get_or-eq_default}
use borrow.Author.Tests.{ltb-false, le-ltb, eq-eqb, ne_eqb}
use Rattle.type_layers.specs.Answer.{is_given}
use Rattle.type_layers.specs.AsCoded.{Whole}
use Rattle.type_checks.specs.Check.{check_of}
use Rattle.type_checks.proofs.Accepted.{good-whole}
use Rattle.symbol_columns.specs.Record.{vacant, typed}
use Rattle.symbol_columns.specs.AsCoded.{row_at, read_from}
use Rattle.symbol_columns.specs.StoredWords.{slot_words, stored_words}
use Rattle.std.proofs.Common.{Some, None}
use Rattle.symbol_search.specs.Search.{slot_for, among}
use Rattle.symbol_search.specs.AsCoded.{slot_in}
use Rattle.symbol_order.specs.Order.{passes, in_order}
use Rattle.symbol_columns.specs.declared.symbol.Symbol.{Symbol}
use Rattle.symbol_columns.proofs.Reading.{get_or_read, length-read}
use Rattle.symbol_search.proofs.Searching.{some_among, none_among, slot_is}
use Rattle.symbol_order.proofs.Ordered.{ordered, pass-at}
use Rattle.symbol_members.specs.Members.{words_at, member_words}
use Rattle.symbol_members.specs.AsCoded.{member_in}

-- the record that is found
module _ (ws store : List ℕ) (n id : ℕ) where
  -- of at most 128 rows
  module _ (few : n ≤ 128) where
    few-rows : member_in ws n store id ≡ words_at (get_or (read_from ws 0 n) (slot_in ws n id) vacant) (slot_words store (slot_in ws n id))
    unfolding member_in member_words
    few-rows = rw (le-ltb 128 n few, ← slot_is ws n id (slot_in ws n id) few refl)

  -- none is: neither of more than 128 rows, nor where the id is in none of them
  pub not_there : None ≡ among n (slot_in ws n id) → [] ≡ member_in ws n store id
  unfolding member_in
  not_there q = by_test (ltb 128 n) refl
    where
      past : length (read_from ws 0 n) ≤ slot_in ws n id
      past = rw (length-read ws 0 n) (none_among n (slot_in ws n id) q)

      by_test : (t : Bool) → ltb 128 n ≡ t → [] ≡ member_in ws n store id
      by_test true b = rw b
      by_test false b = sym (few-rows (ltb-false 128 n b) ∙ rw (get_or-eq_default (read_from ws 0 n) vacant past))

  module _ (k : ℕ) (q : Some k ≡ among n (slot_in ws n id)) where
    few : n ≤ 128
    unfolding slot_in
    few = by_test (ltb 128 n) refl (some_among n (slot_in ws n id) k q).1
      where
        by_test : (t : Bool) → ltb 128 n ≡ t → slot_in ws n id < n → n ≤ 128
        by_test true b less = absurd (omega (arith, rw b at less))
        by_test false b less = ltb-false 128 n b

    pub row_there : k < 128
    row_there = omega (arith, some_among n (slot_in ws n id) k q, few)

    here : member_in ws n store id ≡ words_at (row_at ws k) (slot_words store k)
    here =
        let is = some_among n (slot_in ws n id) k q in
        few-rows few
        ∙ ap (λ (j : ℕ). words_at (get_or (read_from ws 0 n) j vacant) (slot_words store j)) (sym is.0)
        ∙ ap (λ (s : Symbol). words_at s (slot_words store k)) (get_or_read ws 0 n k (omega (arith, is)) ∙ ap (row_at ws) (zero-add k))

    pub not_typed : (get_or ws (k + 384) 0 ≡ 1 → ⊥) → [] ≡ member_in ws n store id
    unfolding row_at
    not_typed f = sym (here ∙ rw (ne_eqb (get_or ws (k + 384) 0) 1 f))

    pub is_typed : (slot r : List ℕ) → get_or ws (k + 384) 0 ≡ 1 → slot ≡ slot_words store k → r ≡ stored_words (get_or ws (k + 512) 0) slot →
        r ≡ member_in ws n store id
    unfolding row_at
    is_typed slot r f p g = g ∙ ap (stored_words (get_or ws (k + 512) 0)) p ∙ sym (here ∙ rw (eq-eqb (get_or ws (k + 384) 0) 1 f))

-- what is stored in a table that is in order
module _ (table : List Symbol) (store : List ℕ) (id : ℕ) (o : in_order table store ≡ true) where
  abbrev at : Symbol
  at = get_or table (slot_for id table) vacant

  abbrev its : List ℕ
  its = stored_words at.layers (slot_words store (slot_for id table))

  pub stored-good : typed at ≡ true → is_given (check_of its) ≡ true
  unfolding passes
  stored-good e = rw e at (pass-at table store (slot_for id table) (ordered table store o).pass)

  pub member-whole : Whole (member_words table store id)
  unfolding member_words
  member-whole = by_state (typed at) refl
    where
      by_state : (f : Bool) → typed at ≡ f → Whole (cond f its [])
      by_state true e = good-whole its (stored-good e)
      by_state false e = record { whole = refl; few = omega arith }
