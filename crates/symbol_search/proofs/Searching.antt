-- The searches through the columns, one row after the other.
-- Assumes nothing.
use mathlib.Core.Path.{◌≡◌, refl, sym, ap, ◌∙◌}
use mathlib.Core.Bool.{Bool, true, false, cond, not, ◌&&◌}
use mathlib.Core.List.{List, [], ◌∷◌}
use Prim.Native.Nat.{ℕ, zero, suc, ◌+◌, ◌-◌, ◌≤◌, ◌<◌}
use native.Mathlib.Nat.{zero-add}
use native.Mathlib.Numerals.{add-one}
use native.Mathlib.Omega.{arith}
use lib.ListN.{length, take, drop, get_or, length-take, length-drop}
use lib.Seq.{drop-cons}
use lib.Dec.{eqb, ltb}
use borrow.Author.Tests.{ltb-true, ltb-false, lt-ltb, le-ltb, eqb-true, eqb-false, eq-eqb, ne_eqb}
use Rattle.symbol_columns.specs.Record.{vacant, free}
use Rattle.symbol_columns.specs.AsCoded.{row_at, read_from}
use Rattle.symbol_columns.specs.declared.symbol.Symbol.{Symbol}
use Rattle.std.proofs.Common.{Option, Some, None}
use Rattle.std.proofs.lemmas.Slice.Zip.{length-zip}
use Rattle.std.specs.List.{zip, position_or_len}
use Rattle.symbol_search.specs.Search.{first_free, slot_for, among}
use Rattle.symbol_search.specs.AsCoded.{free_in, slot_in}
use Rattle.symbol_columns.proofs.Reading.{from, read_more, read-end, read_all}

-- more than 128 rows: none is found
module _ (ws : List ℕ) (n : ℕ) (h : 128 < n) where
  pub free_many : None ≡ among n (free_in ws n)
  unfolding free_in
  free_many = rw (lt-ltb 128 n h, le-ltb n n (omega arith))

  pub slot_many : (id : ℕ) → None ≡ among n (slot_in ws n id)
  unfolding slot_in
  slot_many id = rw (lt-ltb 128 n h, le-ltb n n (omega arith))

-- a search for a free record that has passed i of them
abbrev pub FreePassed : List ℕ → ℕ → ℕ → Type 0
FreePassed ws n i = first_free (read_from ws 0 n) ≡ i + first_free (from ws n i)

-- it finds the next one, where that is free
pub free-found : (ws : List ℕ) (n i : ℕ) → n ≤ 128 → FreePassed ws n i → i < n → get_or ws (i + 384) 0 ≡ 0 → i ≡ free_in ws n
unfolding first_free row_at free_in
free-found ws n i few p h z =
    let e : first_free (from ws n i) ≡ 0 = rw (read_more ws n i h, eq-eqb (get_or ws (i + 384) 0) 0 z) in
    let is : i ≡ first_free (read_from ws 0 n) = omega (arith, e, p) in
    is ∙ rw (le-ltb 128 n few)

-- it has passed none at the start, goes on past one that is taken, and past the last has found none
pub free-start : (ws : List ℕ) (n : ℕ) → FreePassed ws n 0
free-start ws n = omega (arith, ap first_free (read_all ws n))

pub free_on : (ws : List ℕ) (n i : ℕ) → n ≤ 128 → FreePassed ws n i → i < n → (get_or ws (i + 384) 0 ≡ 0 → ⊥) → FreePassed ws n (i + 1)
unfolding first_free row_at
free_on ws n i few p h z =
    let e : first_free (from ws n i) ≡ suc (first_free (from ws n (i + 1))) = rw (read_more ws n i h, ne_eqb (get_or ws (i + 384) 0) 0 z) in
    omega (arith, e, p)

pub free-over : (ws : List ℕ) (n i : ℕ) → n ≤ 128 → FreePassed ws n i → n ≤ i → i ≡ free_in ws n
unfolding first_free free_in
free-over ws n i few p h =
    let e : first_free (from ws n i) ≡ 0 = rw (read-end ws n i h) in
    let is : i ≡ first_free (read_from ws 0 n) = omega (arith, e, p) in
    is ∙ rw (le-ltb 128 n few)

-- so a search through the words of their states finds it
free_along : (ws : List ℕ) (n : ℕ) → n ≤ 128 → n + 384 ≤ length ws → (k i j : ℕ) → i + k ≡ n → j ≡ i + 384 → FreePassed ws n i →
    i + position_or_len (λ s. eqb s 0) (take k (drop j ws)) ≡ free_in ws n
free_along ws n few full zero i j e q p =
    let is : i ≡ free_in ws n = free-over ws n i few p (omega (arith, e)) in
    omega (arith, is)
free_along ws n few full (suc k) i j e q p =
    let here : j < length ws = omega (arith, e, q) in
    let more : i < n = omega (arith, e) in
    rw (drop-cons ws j 0 here, ← add-one j)
    (by_state (eqb (get_or ws j 0) 0) refl
    (λ z. free_along ws n few full k (i + 1) (j + 1) (omega (arith, e)) (omega (arith, q)) (free_on ws n i few p more (λ x. z (ap (λ (m : ℕ). get_or ws m 0) q ∙ x)))))
  where
    rest : ℕ
    rest = position_or_len (λ s. eqb s 0) (take k (drop (j + 1) ws))

    by_state : (b : Bool) → eqb (get_or ws j 0) 0 ≡ b → ((get_or ws j 0 ≡ 0 → ⊥) → i + 1 + rest ≡ free_in ws n) →
        i + cond (not b) (1 + rest) 0 ≡ free_in ws n
    by_state true z on =
        let is : i ≡ free_in ws n = free-found ws n i few p (omega (arith, e)) (ap (λ (m : ℕ). get_or ws m 0) (sym q) ∙ eqb-true (get_or ws j 0) 0 z) in
        omega (arith, is)
    by_state false z on = omega (arith, on (eqb-false (get_or ws j 0) 0 z))

-- a search through records is one through the words of their columns
stops : (b : Bool) (m : ℕ) → cond b 0 (suc m) ≡ cond (not b) (1 + m) 0
stops true m = refl
stops false m = omega arith

-- whether an id and a state are those of a taken record that has the id
abbrev pub wanted : ℕ → ℕ × ℕ → Bool
wanted id w = eqb w.0 id && not (eqb w.1 0)

slot_by_words : (ws : List ℕ) (id i j k : ℕ) → j ≡ i + 384 → j + k ≤ length ws →
    slot_for id (read_from ws i k) ≡ position_or_len (wanted id) (zip (take k (drop i ws)) (take k (drop j ws)))
unfolding slot_for read_from row_at
slot_by_words ws id i j zero e h = refl
slot_by_words ws id i j (suc k) e h =
    let here : j < length ws = omega arith in
    let there : i < length ws = omega arith in
    rw (drop-cons ws j 0 here, drop-cons ws i 0 there, ← e)
    (ap (λ (m : ℕ). cond (wanted id (get_or ws i 0, get_or ws j 0)) 0 (suc m)) (slot_by_words ws id (suc i) (suc j) k (omega arith) (omega arith))
    ∙ stops (wanted id (get_or ws i 0, get_or ws j 0)) (position_or_len (wanted id) (zip (take k (drop (suc i) ws)) (take k (drop (suc j) ws)))))

-- at most 128 rows: what is found in the words is found
abbrev pub found_in : {B : Type 0} → (B → Bool) → List B → Option ℕ
found_in test xs = cond (ltb (position_or_len test xs) (length xs)) (Some (position_or_len test xs)) None

module _ (ws : List ℕ) (n : ℕ) (few : n ≤ 128) (full : length ws ≡ 768) where
  -- the states of the n rows
  abbrev pub states : List ℕ
  states = take (384 + n - 384) (drop 384 ws)

  states-are : states ≡ take n (drop 384 ws)
  states-are = ap (λ (m : ℕ). take m (drop 384 ws)) (omega arith)

  pub free_found : (r : Option ℕ) → r ≡ found_in (λ s. eqb s 0) states → r ≡ among n (free_in ws n)
  free_found r e =
      let m : length (take n (drop 384 ws)) ≡ n = simp (length-take, length-drop) (omega arith) in
      let is : position_or_len (λ s. eqb s 0) (take n (drop 384 ws)) ≡ free_in ws n =
      omega (arith, free_along ws n few (omega (arith, full)) n 0 384 (zero-add n) refl (free-start ws n)) in
      rw (← is) (rw (states-are, m) at e)

  pub slot_found : (id : ℕ) (r : Option ℕ) → r ≡ found_in (wanted id) (zip (take n ws) states) → r ≡ among n (slot_in ws n id)
  unfolding slot_in
  slot_found id r e =
      let m : length (zip (take n ws) (take n (drop 384 ws))) ≡ n = simp (length-zip, length-take, length-drop) (omega arith) in
      rw (le-ltb 128 n few, slot_by_words ws id 0 384 n refl (omega arith)) (rw (states-are, m) at e)

-- what was found is that number, and where none was found it is not below n
pub some_among : (n k i : ℕ) → Some i ≡ among n k → (i ≡ k) × (k < n)
some_among n k i = by_test (ltb k n) refl
  where
    by_test : (t : Bool) → ltb k n ≡ t → Some i ≡ cond t (Some k) None → (i ≡ k) × (k < n)
    by_test true b e = (cc, ltb-true k n b)
    by_test false b e = cc

pub none_among : (n k : ℕ) → None ≡ among n k → n ≤ k
none_among n k = by_test (ltb k n) refl
  where
    by_test : (t : Bool) → ltb k n ≡ t → None ≡ cond t (Some k) None → n ≤ k
    by_test true b e = cc
    by_test false b e = ltb-false k n b

-- the searches through the columns of at most 128 rows
pub slot_is : (ws : List ℕ) (n id k : ℕ) → n ≤ 128 → k ≡ slot_in ws n id → k ≡ slot_for id (read_from ws 0 n)
unfolding slot_in
slot_is ws n id k h e = e ∙ (rw (le-ltb 128 n h))

pub free-is : (ws : List ℕ) (n k : ℕ) → n ≤ 128 → k ≡ free_in ws n → k ≡ first_free (read_from ws 0 n)
unfolding free_in
free-is ws n k h e = e ∙ (rw (le-ltb 128 n h))

-- the record that the search found has the id
pub slot_has : (id : ℕ) (table : List Symbol) → slot_for id table < length table → (get_or table (slot_for id table) vacant).id ≡ id
unfolding slot_for
slot_has id [] h = absurd (omega arith)
slot_has id (s ∷ table) h = both (eqb s.id id) refl (free s) h (slot_has id table)
  where
    both : (t : Bool) → eqb s.id id ≡ t → (f : Bool) → cond (t && not f) 0 (suc (slot_for id table)) < suc (length table) →
        (slot_for id table < length table → (get_or table (slot_for id table) vacant).id ≡ id) →
        (get_or (s ∷ table) (cond (t && not f) 0 (suc (slot_for id table))) vacant).id ≡ id
    both true e false h ih = eqb-true s.id id e
    both true e true h ih = ih (omega arith)
    both false e f h ih = ih (omega arith)
