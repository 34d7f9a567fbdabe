-- A table in which one record is set: which sentences still hold of it.
-- Assumes nothing.
use mathlib.Core.Path.{◌≡◌, refl, sym, ap, ◌∙◌}
use mathlib.Core.Bool.{Bool, true, false, cond, not, ◌&&◌, ◌||◌, true≢false}
use mathlib.Core.List.{List, [], ◌∷◌, ◌++◌}
use Prim.Native.Nat.{ℕ, zero, suc, ◌+◌, ◌-◌, ◌*◌, ◌≤◌, ◌<◌}
use native.Mathlib.Nat.{not-suc-le-zero}
use native.Mathlib.Omega.{arith}
use lib.Dec.{eqb, leb}
use lib.ListN.{length, take, drop, get_or, set, length-drop}
use lib.Seq.{take-append-le, drop-append-le, take-take, drop-drop, take-add, take_at, drop_at, drop-append-add, length-take-le}
use borrow.Author.Tests.{eq-eqb}
use Rattle.symbol_columns.specs.declared.symbol.Symbol.{Symbol}
use Rattle.symbol_columns.specs.Record.{vacant, free}
use Rattle.symbol_columns.specs.StoredWords.{slot_words}
use Rattle.symbol_search.specs.Search.{first_free, slot_for}
use Rattle.symbol_order.specs.Order.{known_states, all_free, taken_first, taken, has_id, repeats, passes, all_pass}
use Rattle.type_layers.proofs.Decide.{both, neither, eqb-sym}
use Rattle.symbol_change.specs.Change.{with_slot}

-- "states are 0 to 2"
pub states-set : (table : List Symbol) (k : ℕ) (s : Symbol) → known_states table ≡ true → leb s.state 2 ≡ true → known_states (set table k s) ≡ true
unfolding known_states
states-set [] k s e h = e
states-set (x ∷ table) zero s e h = rw h (both (leb x.state 2) (known_states table) e).1
states-set (x ∷ table) (suc k) s e h =
    rw (both (leb x.state 2) (known_states table) e).0 (states-set table k s (both (leb x.state 2) (known_states table) e).1 h)

pub state-at : (table : List Symbol) (k : ℕ) → known_states table ≡ true → k < length table → leb (get_or table k vacant).state 2 ≡ true
unfolding known_states
state-at [] k e h = absurd (not-suc-le-zero h)
state-at (x ∷ table) zero e h = (both (leb x.state 2) (known_states table) e).0
state-at (x ∷ table) (suc k) e h = state-at table k (both (leb x.state 2) (known_states table) e).1 (omega arith)

-- "taken records precede free ones"
all-free-at : (table : List Symbol) (k : ℕ) → all_free table ≡ true → k < length table → free (get_or table k vacant) ≡ true
unfolding all_free
all-free-at [] k e h = absurd (not-suc-le-zero h)
all-free-at (x ∷ table) zero e h = (both (free x) (all_free table) e).0
all-free-at (x ∷ table) (suc k) e h = all-free-at table k (both (free x) (all_free table) e).1 (omega arith)

pub first-set : (table : List Symbol) (k : ℕ) (s : Symbol) → taken_first table ≡ true → k < length table →
    free (get_or table k vacant) ≡ false → free s ≡ false → taken_first (set table k s) ≡ true
unfolding taken_first
first-set [] k s e h was now = absurd (not-suc-le-zero h)
first-set (x ∷ table) zero s e h was now = rw now (rw was at e)
first-set (x ∷ table) (suc k) s e h was now = by_first (free x) e (λ f. first-set table k s f (omega arith) was now)
  where
    by_first : (t : Bool) → cond t (all_free table) (taken_first table) ≡ true → (taken_first table ≡ true → taken_first (set table k s) ≡ true) →
        cond t (all_free (set table k s)) (taken_first (set table k s)) ≡ true
    by_first true f ih = absurd (true≢false (sym (all-free-at table k f (omega arith)) ∙ was))
    by_first false f ih = ih f

all-free-first : (table : List Symbol) → all_free table ≡ true → taken_first table ≡ true
unfolding taken_first all_free
all-free-first [] e = refl
all-free-first (x ∷ table) e = rw (both (free x) (all_free table) e).0 (both (free x) (all_free table) e).1

pub first-new : (table : List Symbol) (s : Symbol) → taken_first table ≡ true → first_free table < length table → free s ≡ false →
    taken_first (set table (first_free table) s) ≡ true
unfolding taken_first first_free
first-new [] s e h now = absurd (not-suc-le-zero h)
first-new (x ∷ table) s e h now = by_first (free x) refl e h (λ f g. first-new table s f g now)
  where
    by_first : (t : Bool) → free x ≡ t → cond t (all_free table) (taken_first table) ≡ true → cond t 0 (suc (first_free table)) < suc (length table) →
        (taken_first table ≡ true → first_free table < length table → taken_first (set table (first_free table) s) ≡ true) →
        taken_first (set (x ∷ table) (cond t 0 (suc (first_free table))) s) ≡ true
    by_first true q f g ih = rw now (all-free-first table f)
    by_first false q f g ih = rw q (ih f (omega arith))

-- "no taken id repeats": a taken record is replaced by one of the same id
id-kept : (j : ℕ) (table : List Symbol) (k : ℕ) (s : Symbol) → k < length table → free (get_or table k vacant) ≡ false → free s ≡ false →
    s.id ≡ (get_or table k vacant).id → has_id j (taken (set table k s)) ≡ has_id j (taken table)
unfolding taken has_id
id-kept j [] k s h was now same = absurd (not-suc-le-zero h)
id-kept j (x ∷ table) zero s h was now same = rw (now, was, same)
id-kept j (x ∷ table) (suc k) s h was now same = by_first (free x) (id-kept j table k s (omega arith) was now same)
  where
    by_first : (t : Bool) → has_id j (taken (set table k s)) ≡ has_id j (taken table) →
        has_id j (cond t (taken (set table k s)) (x ∷ taken (set table k s))) ≡ has_id j (cond t (taken table) (x ∷ taken table))
    by_first true e = e
    by_first false e = ap (λ (b : Bool). eqb x.id j || b) e

pub ids-kept : (table : List Symbol) (k : ℕ) (s : Symbol) → k < length table → free (get_or table k vacant) ≡ false → free s ≡ false →
    s.id ≡ (get_or table k vacant).id → repeats (taken (set table k s)) ≡ repeats (taken table)
unfolding taken repeats
ids-kept [] k s h was now same = absurd (not-suc-le-zero h)
ids-kept (x ∷ table) zero s h was now same = rw (now, was, same)
ids-kept (x ∷ table) (suc k) s h was now same =
    by_first (free x) (id-kept x.id table k s (omega arith) was now same) (ids-kept table k s (omega arith) was now same)
  where
    by_first : (t : Bool) → has_id x.id (taken (set table k s)) ≡ has_id x.id (taken table) → repeats (taken (set table k s)) ≡ repeats (taken table) →
        repeats (cond t (taken (set table k s)) (x ∷ taken (set table k s))) ≡ repeats (cond t (taken table) (x ∷ taken table))
    by_first true e f = f
    by_first false e f = λ i. e i || f i

-- an id that no taken record has
pub absent-id : (id : ℕ) (table : List Symbol) → length table ≤ slot_for id table → has_id id (taken table) ≡ false
unfolding slot_for taken has_id
absent-id id [] h = refl
absent-id id (x ∷ table) h = by_first (eqb x.id id) refl (free x) h (absent-id id table)
  where
    by_first : (t : Bool) → eqb x.id id ≡ t → (f : Bool) → suc (length table) ≤ cond (t && not f) 0 (suc (slot_for id table)) →
        (length table ≤ slot_for id table → has_id id (taken table) ≡ false) → has_id id (cond f (taken table) (x ∷ taken table)) ≡ false
    by_first true e false h ih = absurd (not-suc-le-zero h)
    by_first true e true h ih = ih (omega arith)
    by_first false e true h ih = ih (omega arith)
    by_first false e false h ih = rw e (ih (omega arith))

-- the first free record is replaced by one of a new id
id-new : (j : ℕ) (table : List Symbol) (s : Symbol) → taken_first table ≡ true → first_free table < length table → free s ≡ false →
    has_id j (taken table) ≡ false → eqb s.id j ≡ false → has_id j (taken (set table (first_free table) s)) ≡ false
unfolding taken_first first_free taken has_id
id-new j [] s e h now a b = absurd (not-suc-le-zero h)
id-new j (x ∷ table) s e h now a b = by_first (free x) refl e h a (λ f g c. id-new j table s f g now c b)
  where
    by_first : (t : Bool) → free x ≡ t → cond t (all_free table) (taken_first table) ≡ true → cond t 0 (suc (first_free table)) < suc (length table) →
        has_id j (cond t (taken table) (x ∷ taken table)) ≡ false →
        (taken_first table ≡ true → first_free table < length table → has_id j (taken table) ≡ false → has_id j (taken (set table (first_free table) s)) ≡ false) →
        has_id j (taken (set (x ∷ table) (cond t 0 (suc (first_free table))) s)) ≡ false
    by_first true q f g c ih = rw (now, b) c
    by_first false q f g c ih =
        rw (q, (neither (eqb x.id j) (has_id j (taken table)) c).0) (ih f (omega arith) (neither (eqb x.id j) (has_id j (taken table)) c).1)

pub turned_round : (a b : ℕ) → eqb a b ≡ false → eqb b a ≡ false
turned_round a b e = eqb-sym b a ∙ e

pub ids-new : (table : List Symbol) (s : Symbol) → taken_first table ≡ true → first_free table < length table → free s ≡ false →
    has_id s.id (taken table) ≡ false → repeats (taken table) ≡ false → repeats (taken (set table (first_free table) s)) ≡ false
unfolding taken_first first_free taken has_id repeats
ids-new [] s e h now a b = absurd (not-suc-le-zero h)
ids-new (x ∷ table) s e h now a b = by_first (free x) refl e h a b (λ f g c d. ids-new table s f g now c d)
  where
    by_first : (t : Bool) → free x ≡ t → cond t (all_free table) (taken_first table) ≡ true → cond t 0 (suc (first_free table)) < suc (length table) →
        has_id s.id (cond t (taken table) (x ∷ taken table)) ≡ false → repeats (cond t (taken table) (x ∷ taken table)) ≡ false →
        (taken_first table ≡ true → first_free table < length table → has_id s.id (taken table) ≡ false → repeats (taken table) ≡ false →
        repeats (taken (set table (first_free table) s)) ≡ false) →
        repeats (taken (set (x ∷ table) (cond t 0 (suc (first_free table))) s)) ≡ false
    by_first true q f g c d ih = rw (now, c) d
    by_first false q f g c d ih =
        let other = turned_round x.id s.id (neither (eqb x.id s.id) (has_id s.id (taken table)) c).0 in
        let none = (neither (has_id x.id (taken table)) (repeats (taken table)) d).0 in
        rw (q, id-new x.id table s f (omega arith) now none other)
        (ih f (omega arith) (neither (eqb x.id s.id) (has_id s.id (taken table)) c).1 (neither (has_id x.id (taken table)) (repeats (taken table)) d).1)

-- "each typed record's words pass checks 1-3"
pub pass-set : (table : List Symbol) (store : List ℕ) (k : ℕ) (s : Symbol) (ws : List ℕ) → all_pass table store ≡ true → k < length table →
    length store ≡ length table * 48 → passes s.state s.layers (take 48 ws) ≡ true → drop 48 ws ≡ drop 48 (drop (k * 48) store) →
    all_pass (set table k s) (take (k * 48) store ++ ws) ≡ true
unfolding all_pass
pass-set [] store k s ws e h full here rest = absurd (not-suc-le-zero h)
pass-set (x ∷ table) store zero s ws e h full here rest =
    rw (here, rest) (both (passes x.state x.layers (take 48 store)) (all_pass table (drop 48 store)) e).1
pass-set (x ∷ table) store (suc k) s ws e h full here rest =
    let n : suc k * 48 ≡ 48 + k * 48 = omega arith in
    let long : suc k * 48 ≤ length store = omega (arith, full) in
    let front : length (take (suc k * 48) store) ≡ suc k * 48 = length-take-le (suc k * 48) store long in
    let within : 48 ≤ length (take (suc k * 48) store) = omega (arith, front) in
    let more : 48 ≤ suc k * 48 = omega arith in
    let short : 48 ≤ length store = omega (arith, full) in
    let first : take 48 (take (suc k * 48) store ++ ws) ≡ take 48 store =
    take-append-le 48 (take (suc k * 48) store) ws within ∙ take-take 48 (suc k * 48) store more in
    let left : drop 48 (take (suc k * 48) store) ≡ take (k * 48) (drop 48 store) =
    ap (λ (m : ℕ). drop 48 (take m store)) n ∙ ap (drop 48) (take-add 48 (k * 48) store)
    ∙ drop_at (take 48 store) (take (k * 48) (drop 48 store)) 48 (length-take-le 48 store short) in
    let tail : drop 48 (take (suc k * 48) store ++ ws) ≡ take (k * 48) (drop 48 store) ++ ws =
    drop-append-le 48 (take (suc k * 48) store) ws within ∙ ap (λ (l : List ℕ). l ++ ws) left in
    let sized : length (drop 48 store) ≡ length table * 48 = simp length-drop (omega (arith, full)) in
    rw (first, (both (passes x.state x.layers (take 48 store)) (all_pass table (drop 48 store)) e).0, tail)
    (pass-set table (drop 48 store) k s ws (both (passes x.state x.layers (take 48 store)) (all_pass table (drop 48 store)) e).1 (omega arith) sized here
    (rest ∙ ap (drop 48) (ap (λ (m : ℕ). drop m store) n ∙ sym (drop-drop (k * 48) 48 store))))

-- the record that a search finds is taken
pub slot-taken : (id : ℕ) (table : List Symbol) → slot_for id table < length table → free (get_or table (slot_for id table) vacant) ≡ false
unfolding slot_for
slot-taken id [] h = absurd (not-suc-le-zero h)
slot-taken id (x ∷ table) h = by_first (eqb x.id id) (free x) refl h (slot-taken id table)
  where
    by_first : (t f : Bool) → free x ≡ f → cond (t && not f) 0 (suc (slot_for id table)) < suc (length table) →
        (slot_for id table < length table → free (get_or table (slot_for id table) vacant) ≡ false) →
        free (get_or (x ∷ table) (cond (t && not f) 0 (suc (slot_for id table))) vacant) ≡ false
    by_first true false q h ih = q
    by_first true true q h ih = ih (omega arith)
    by_first false f q h ih = ih (omega arith)

-- the search for another id finds what it found
pub slot-other : (id : ℕ) (table : List Symbol) (k : ℕ) (s : Symbol) → k < length table →
    (eqb (get_or table k vacant).id id && not (free (get_or table k vacant))) ≡ false → (eqb s.id id && not (free s)) ≡ false →
    slot_for id (set table k s) ≡ slot_for id table
unfolding slot_for
slot-other id [] k s h was now = absurd (not-suc-le-zero h)
slot-other id (x ∷ table) zero s h was now = rw (now, was)
slot-other id (x ∷ table) (suc k) s h was now =
    ap (λ (n : ℕ). cond (eqb x.id id && not (free x)) 0 (suc n)) (slot-other id table k s (omega arith) was now)

-- the search for the id of the record that was set: it is found there
pub slot_kept : (id : ℕ) (table : List Symbol) (s : Symbol) → slot_for id table < length table → s.id ≡ id → free s ≡ false →
    slot_for id (set table (slot_for id table) s) ≡ slot_for id table
unfolding slot_for
slot_kept id [] s h same now = absurd (not-suc-le-zero h)
slot_kept id (x ∷ table) s h same now = by_first (eqb x.id id && not (free x)) refl h (λ g. slot_kept id table s g same now)
  where
    by_first : (t : Bool) → (eqb x.id id && not (free x)) ≡ t → cond t 0 (suc (slot_for id table)) < suc (length table) →
        (slot_for id table < length table → slot_for id (set table (slot_for id table) s) ≡ slot_for id table) →
        slot_for id (set (x ∷ table) (cond t 0 (suc (slot_for id table))) s) ≡ cond t 0 (suc (slot_for id table))
    by_first true q h ih = rw (eq-eqb s.id id same, now)
    by_first false q h ih = rw q (ap suc (ih (omega arith)))

pub slot-new : (id : ℕ) (table : List Symbol) (s : Symbol) → length table ≤ slot_for id table → first_free table < length table → s.id ≡ id → free s ≡ false →
    slot_for id (set table (first_free table) s) ≡ first_free table
unfolding slot_for first_free
slot-new id [] s a h same now = absurd (not-suc-le-zero h)
slot-new id (x ∷ table) s a h same now = by_first (free x) (eqb x.id id) refl refl a h (λ f g. slot-new id table s f g same now)
  where
    by_first : (f t : Bool) → free x ≡ f → eqb x.id id ≡ t → suc (length table) ≤ cond (t && not f) 0 (suc (slot_for id table)) →
        cond f 0 (suc (first_free table)) < suc (length table) →
        (length table ≤ slot_for id table → first_free table < length table → slot_for id (set table (first_free table) s) ≡ first_free table) →
        slot_for id (set (x ∷ table) (cond f 0 (suc (first_free table))) s) ≡ cond f 0 (suc (first_free table))
    by_first true t q r a h ih = rw (eq-eqb s.id id same, now)
    by_first false true q r a h ih = absurd (not-suc-le-zero a)
    by_first false false q r a h ih = rw (q, r) (ap suc (ih (omega arith) (omega arith)))

-- the first free record is free
pub free-at : (table : List Symbol) → first_free table < length table → free (get_or table (first_free table) vacant) ≡ true
unfolding first_free
free-at [] h = absurd (not-suc-le-zero h)
free-at (x ∷ table) h = by_first (free x) refl h (free-at table)
  where
    by_first : (t : Bool) → free x ≡ t → cond t 0 (suc (first_free table)) < suc (length table) →
        (first_free table < length table → free (get_or table (first_free table) vacant) ≡ true) →
        free (get_or (x ∷ table) (cond t 0 (suc (first_free table))) vacant) ≡ true
    by_first true q h ih = q
    by_first false q h ih = ih (omega arith)

-- the words of another slot
module _ (store ws : List ℕ) (k i : ℕ) (room : k * 48 ≤ length store) (rest : drop 48 ws ≡ drop 48 (drop (k * 48) store)) where
  front : length (take (k * 48) store) ≡ k * 48
  front = length-take-le (k * 48) store room

  pub words-before : i < k → take 48 (drop (i * 48) (take (k * 48) store ++ ws)) ≡ take 48 (drop (i * 48) store)
  words-before h =
      let m : k * 48 ≡ i * 48 + (48 + (k * 48 - (i * 48 + 48))) = omega arith in
      let within : i * 48 ≤ length (take (k * 48) store) = omega (arith, front) in
      let left : drop (i * 48) (take (k * 48) store) ≡ take (48 + (k * 48 - (i * 48 + 48))) (drop (i * 48) store) =
      ap (λ (n : ℕ). drop (i * 48) (take n store)) m
      ∙ ap (drop (i * 48)) (take-add (i * 48) (48 + (k * 48 - (i * 48 + 48))) store)
      ∙ drop_at (take (i * 48) store) (take (48 + (k * 48 - (i * 48 + 48))) (drop (i * 48) store)) (i * 48) (length-take-le (i * 48) store (omega arith)) in
      let size : 48 ≤ length (drop (i * 48) (take (k * 48) store)) = simp length-drop (omega (arith, front)) in
      let less : 48 ≤ 48 + (k * 48 - (i * 48 + 48)) = omega arith in
      ap (take 48) (drop-append-le (i * 48) (take (k * 48) store) ws within)
      ∙ take-append-le 48 (drop (i * 48) (take (k * 48) store)) ws size
      ∙ ap (take 48) left
      ∙ take-take 48 (48 + (k * 48 - (i * 48 + 48))) (drop (i * 48) store) less

  pub words-after : k < i → drop (i * 48) (take (k * 48) store ++ ws) ≡ drop (i * 48) store
  words-after h =
      let m : i * 48 ≡ k * 48 + (48 + (i * 48 - (k * 48 + 48))) = omega arith in
      let n : length (take (k * 48) store) + (48 + (i * 48 - (k * 48 + 48))) ≡ i * 48 = omega (arith, front) in
      ap (λ (j : ℕ). drop j (take (k * 48) store ++ ws)) (sym n)
      ∙ drop-append-add (take (k * 48) store) ws (48 + (i * 48 - (k * 48 + 48)))
      ∙ sym (drop-drop (i * 48 - (k * 48 + 48)) 48 ws)
      ∙ ap (drop (i * 48 - (k * 48 + 48))) rest
      ∙ drop-drop (i * 48 - (k * 48 + 48)) 48 (drop (k * 48) store)
      ∙ drop-drop (48 + (i * 48 - (k * 48 + 48))) (k * 48) store
      ∙ ap (λ (j : ℕ). drop j store) (sym m)

-- the words of a slot that were set
pub slot-written : (store : List ℕ) (k : ℕ) (ws : List ℕ) → k * 48 ≤ length store → length ws ≡ 48 → slot_words (with_slot store k ws) k ≡ ws
slot-written store k ws room all =
    let rest = drop 48 (drop (k * 48) store) in
    ap (take 48) (drop_at (take (k * 48) store) (ws ++ rest) (k * 48) (length-take-le (k * 48) store room)) ∙ take_at ws rest 48 all
