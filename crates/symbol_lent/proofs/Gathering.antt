-- What was gathered into columns is read out of them.
-- Assumes nothing.
use mathlib.Core.Path.{◌≡◌, refl, sym, ap, subst, ◌∙◌}
use mathlib.Core.Bool.{Bool, true, false, cond}
use mathlib.Core.List.{List, ◌∷◌}
use mathlib.Core.Logic.{◌≢◌}
use Prim.Native.Nat.{ℕ, zero, suc, ◌+◌, ◌<◌, ◌≤◌}
use native.Mathlib.Nat.{zero-add, not-suc-le-zero}
use native.Mathlib.Omega.{arith}
use lib.Dec.{eqb, ltb}
use lib.ListN.{length, drop, get_or, set, replicate, length-replicate, length-set, drop_of_length-le}
use lib.Seq.{get_or-set_same, get_or-set_other, drop-cons}
use borrow.Author.Tests.{lt-ltb, le-ltb, ltb-true, ltb-false, eqb-true, eqb-false}
use Rattle.symbol_columns.specs.Record.{vacant}
use Rattle.symbol_columns.specs.AsCoded.{bit, six_set, put_row, row_at, read_from}
use Rattle.symbol_columns.specs.declared.symbol.Symbol.{Symbol}
use Rattle.symbol_columns.proofs.Reading.{length-read}
use Rattle.symbol_lent.specs.AsCoded.{rows_into, gathered_into, gathered}
use native.Mathlib.Numerals.{add-one}

-- a record more in its columns; of more than 128 records the columns stay
module _ (ws : List ℕ) (table : List Symbol) where
  pub rows_next : (k : ℕ) → rows_into ws table (k + 1) ≡ put_row (rows_into ws table k) k (get_or table k vacant)
  unfolding rows_into
  rows_next k = ap (rows_into ws table) (add-one k)

  pub gather-many : 128 < length table → ws ≡ gathered_into ws table
  unfolding gathered_into
  gather-many h = rw (lt-ltb 128 (length table) h)

-- what stands in the rows is what was put there
bit-back : (b : Bool) → eqb (bit b) 1 ≡ b
bit-back true = refl
bit-back false = refl

put-in : (ws : List ℕ) (i : ℕ) (s : Symbol) → i < 128 → put_row ws i s ≡ six_set ws i s
unfolding put_row
put-in ws i s h = ap (λ (t : Bool). cond t (six_set ws i s) ws) (lt-ltb i 128 h)

-- a word of one column, by the words that were set after it and before it
module _ (ws : List ℕ) (i : ℕ) (s : Symbol) where
  abbrev one : List ℕ
  one = set ws i s.id

  abbrev two : List ℕ
  two = set one (i + 128) (bit s.authority)

  abbrev three : List ℕ
  three = set two (i + 256) s.place

  abbrev four : List ℕ
  four = set three (i + 384) s.state

  abbrev five : List ℕ
  five = set four (i + 512) s.layers

  six-length : length (six_set ws i s) ≡ length ws
  six-length = simp length-set

  other : (j : ℕ) → j ≢ i → j ≢ i + 128 → j ≢ i + 256 → j ≢ i + 384 → j ≢ i + 512 → j ≢ i + 640 → get_or (six_set ws i s) j 0 ≡ get_or ws j 0
  other j a b c d e f =
      get_or-set_other five (i + 640) j s.mark 0 f
      ∙ get_or-set_other four (i + 512) j s.layers 0 e
      ∙ get_or-set_other three (i + 384) j s.state 0 d
      ∙ get_or-set_other two (i + 256) j s.place 0 c
      ∙ get_or-set_other one (i + 128) j (bit s.authority) 0 b
      ∙ get_or-set_other ws i j s.id 0 a

  row_other : (j : ℕ) → i < 128 → j < 128 → j ≢ i → row_at (six_set ws i s) j ≡ row_at ws j
  unfolding row_at
  row_other j l m off =
      let e0 = other j off (λ q. omega (arith, q)) (λ q. omega (arith, q)) (λ q. omega (arith, q)) (λ q. omega (arith, q)) (λ q. omega (arith, q)) in
      let e1 = other (j + 128) (λ q. omega (arith, q)) (λ q. off (omega (arith, q))) (λ q. omega (arith, q)) (λ q. omega (arith, q)) (λ q. omega (arith, q)) (λ q. omega (arith, q)) in
      let e2 = other (j + 256) (λ q. omega (arith, q)) (λ q. omega (arith, q)) (λ q. off (omega (arith, q))) (λ q. omega (arith, q)) (λ q. omega (arith, q)) (λ q. omega (arith, q)) in
      let e3 = other (j + 384) (λ q. omega (arith, q)) (λ q. omega (arith, q)) (λ q. omega (arith, q)) (λ q. off (omega (arith, q))) (λ q. omega (arith, q)) (λ q. omega (arith, q)) in
      let e4 = other (j + 512) (λ q. omega (arith, q)) (λ q. omega (arith, q)) (λ q. omega (arith, q)) (λ q. omega (arith, q)) (λ q. off (omega (arith, q))) (λ q. omega (arith, q)) in
      let e5 = other (j + 640) (λ q. omega (arith, q)) (λ q. omega (arith, q)) (λ q. omega (arith, q)) (λ q. omega (arith, q)) (λ q. omega (arith, q)) (λ q. off (omega (arith, q))) in
      λ t. record { id = e0 t; authority = eqb (e1 t) 1; place = e2 t; state = e3 t; layers = e4 t; mark = e5 t }

  row_same : i < 128 → length ws ≡ 768 → row_at (six_set ws i s) i ≡ s
  unfolding row_at
  row_same l full =
      let n1 : i < length ws = omega (arith, full) in
      let n2 : i + 128 < length one = simp length-set (omega (arith, full)) in
      let n3 : i + 256 < length two = simp length-set (omega (arith, full)) in
      let n4 : i + 384 < length three = simp length-set (omega (arith, full)) in
      let n5 : i + 512 < length four = simp length-set (omega (arith, full)) in
      let n6 : i + 640 < length five = simp length-set (omega (arith, full)) in
      let e5 : get_or (six_set ws i s) (i + 640) 0 ≡ s.mark = get_or-set_same five (i + 640) s.mark 0 n6 in
      let e4 : get_or (six_set ws i s) (i + 512) 0 ≡ s.layers =
      get_or-set_other five (i + 640) (i + 512) s.mark 0 (λ q. omega (arith, q)) ∙ get_or-set_same four (i + 512) s.layers 0 n5 in
      let e3 : get_or (six_set ws i s) (i + 384) 0 ≡ s.state =
      get_or-set_other five (i + 640) (i + 384) s.mark 0 (λ q. omega (arith, q))
      ∙ get_or-set_other four (i + 512) (i + 384) s.layers 0 (λ q. omega (arith, q))
      ∙ get_or-set_same three (i + 384) s.state 0 n4 in
      let e2 : get_or (six_set ws i s) (i + 256) 0 ≡ s.place =
      get_or-set_other five (i + 640) (i + 256) s.mark 0 (λ q. omega (arith, q))
      ∙ get_or-set_other four (i + 512) (i + 256) s.layers 0 (λ q. omega (arith, q))
      ∙ get_or-set_other three (i + 384) (i + 256) s.state 0 (λ q. omega (arith, q))
      ∙ get_or-set_same two (i + 256) s.place 0 n3 in
      let e1 : get_or (six_set ws i s) (i + 128) 0 ≡ bit s.authority =
      get_or-set_other five (i + 640) (i + 128) s.mark 0 (λ q. omega (arith, q))
      ∙ get_or-set_other four (i + 512) (i + 128) s.layers 0 (λ q. omega (arith, q))
      ∙ get_or-set_other three (i + 384) (i + 128) s.state 0 (λ q. omega (arith, q))
      ∙ get_or-set_other two (i + 256) (i + 128) s.place 0 (λ q. omega (arith, q))
      ∙ get_or-set_same one (i + 128) (bit s.authority) 0 n2 in
      let e0 : get_or (six_set ws i s) i 0 ≡ s.id =
      get_or-set_other five (i + 640) i s.mark 0 (λ q. omega (arith, q))
      ∙ get_or-set_other four (i + 512) i s.layers 0 (λ q. omega (arith, q))
      ∙ get_or-set_other three (i + 384) i s.state 0 (λ q. omega (arith, q))
      ∙ get_or-set_other two (i + 256) i s.place 0 (λ q. omega (arith, q))
      ∙ get_or-set_other one (i + 128) i (bit s.authority) 0 (λ q. omega (arith, q))
      ∙ get_or-set_same ws i s.id 0 n1 in
      λ t. record { id = e0 t; authority = (ap (λ (w : ℕ). eqb w 1) e1 ∙ bit-back s.authority) t; place = e2 t; state = e3 t; layers = e4 t; mark = e5 t }

module _ (ws : List ℕ) (full : length ws ≡ 768) (table : List Symbol) where
  abbrev rows : ℕ → List ℕ
  rows k = rows_into ws table k

  rows-length : (k : ℕ) → k ≤ 128 → length (rows k) ≡ 768
  unfolding rows_into
  rows-length zero h = full
  rows-length (suc k) h =
      ap length (put-in (rows k) k (get_or table k vacant) (omega arith)) ∙ six-length (rows k) k (get_or table k vacant) ∙ rows-length k (omega arith)

  row_is : (k j : ℕ) → k ≤ 128 → j < k → row_at (rows k) j ≡ get_or table j vacant
  unfolding rows_into
  row_is zero j l m = absurd (not-suc-le-zero m)
  row_is (suc k) j l m =
      let s : Symbol = get_or table k vacant in
      ap (λ (ws : List ℕ). row_at ws j) (put-in (rows k) k s (omega arith)) ∙ both (eqb j k) refl (λ (h : j < k). row_is k j (omega arith) h)
    where
      both : (t : Bool) → eqb j k ≡ t → (j < k → row_at (rows k) j ≡ get_or table j vacant) → row_at (six_set (rows k) k (get_or table k vacant)) j ≡ get_or table j vacant
      both true e ih =
          ap (λ (h : ℕ). row_at (six_set (rows k) k (get_or table k vacant)) h) (eqb-true j k e)
          ∙ row_same (rows k) k (get_or table k vacant) (omega arith) (rows-length k (omega arith))
          ∙ ap (λ (h : ℕ). get_or table h vacant) (sym (eqb-true j k e))
      both false e ih =
          row_other (rows k) k (get_or table k vacant) j (omega arith) (omega arith) (eqb-false j k e) ∙ ih (omega (arith, eqb-false j k e))

  back-drop : (i m : ℕ) → length table ≤ 128 → i + m ≡ length table → read_from (rows (length table)) i m ≡ drop i table
  unfolding read_from
  back-drop i zero l e =
      let past : length table ≤ i = omega (arith, e) in
      sym (drop_of_length-le table past)
  back-drop i (suc m) l e =
      let here : i < length table = omega (arith, e) in
      (λ t. row_is (length table) i l here t ∷ back-drop (suc i) m l (omega (arith, e)) t) ∙ sym (drop-cons table i vacant here)

-- the table, read out of its columns
pub read_back : (table : List Symbol) → length table ≤ 128 → read_from (gathered table) 0 (length table) ≡ table
unfolding gathered_into
read_back table h =
    let zeros : List ℕ = replicate 768 0 in
    ap (λ (t : Bool). read_from (cond t zeros (rows_into zeros table (length table))) 0 (length table)) (le-ltb 128 (length table) h)
    ∙ back-drop zeros (length-replicate {A = ℕ} 768 0) table 0 (length table) h (zero-add (length table))

-- A rule that answers the same of all tables of one length over 128 cannot tell the columns from the table.
pub swapped : {A : Type 0} (table : List Symbol) (F : List Symbol → A) (a : A) →
    ((l : List Symbol) → length l ≡ length table → 128 < length l → F l ≡ a) →
    F (read_from (gathered table) 0 (length table)) ≡ F table
swapped {A} table F a many = both (ltb 128 (length table)) refl
  where
    both : (t : Bool) → ltb 128 (length table) ≡ t → F (read_from (gathered table) 0 (length table)) ≡ F table
    both true e =
        let n = length-read (gathered table) 0 (length table) in
        let over : 128 < length table = ltb-true 128 (length table) e in
        many (read_from (gathered table) 0 (length table)) n (subst (λ (k : ℕ). 128 < k) (sym n) over) ∙ sym (many table refl over)
    both false e = ap F (read_back table (ltb-false 128 (length table) e))
