-- One pass over a table, each record asked by those before it. It asks for the order, and the code's loop is this pass.
-- Assumes nothing.
use mathlib.Core.Path.{◌≡◌, refl, sym, ap, ◌∙◌}
use mathlib.Core.Bool.{Bool, true, false, cond, not, ◌&&◌, ◌||◌, true≢false, false≢true}
use mathlib.Core.List.{List, [], ◌∷◌, ◌++◌}
use mathlib.Core.Logic.{◌≢◌}
use Prim.Native.Nat.{ℕ, zero, suc, ◌+◌, ◌-◌, ◌*◌, ◌%◌, ◌≤◌, ◌<◌}
use native.Mathlib.Nat.{zero-add}
use native.Mathlib.Omega.{arith}
use lib.Dec.{eqb, leb}
use lib.ListN.{length, take, drop, get_or, set, length-set, length-take}
use Rattle.std.proofs.lemmas.List.{get_or-take}
use lib.Seq.{drop-drop, get_or-set_same, get_or-set_other}
use borrow.Author.Tests.{lt-leb, ne_eqb, eqb-true, eqb-false}
use Rattle.type_layers.proofs.Decide.{both, neither, eqb-sym}
use Rattle.symbol_columns.specs.declared.symbol.Symbol.{Symbol}
use Rattle.symbol_columns.specs.Record.{free}
use Rattle.symbol_columns.specs.AsCoded.{row_at, read_from}
use Rattle.symbol_columns.proofs.Reading.{from, read_more, read-end, read_all, read-last, length-read}
use Rattle.symbol_order.specs.Order.{known_states, all_free, taken_first, taken, has_id, repeats, passes, all_pass, in_order}
use Rattle.symbol_order.specs.AsCoded.{stands, Noted}
use Rattle.symbol_order.proofs.Ordered.{ordered, in_order_lem, none-taken}

-- the pass from a record on
unfoldable pub onward : Bool → List Symbol → List Symbol → List ℕ → Bool
onward after before [] w = true
onward after before (s ∷ t) w = stands after before s (take 48 w) && onward (free s) (before ++ (s ∷ [])) t (drop 48 w)

-- one of the later ids among the earlier
unfoldable crosses : List Symbol → List Symbol → Bool
crosses before [] = false
crosses before (s ∷ t) = has_id s.id before || crosses before t

one_more : (id : ℕ) (before : List Symbol) (s : Symbol) → has_id id (before ++ (s ∷ [])) ≡ (has_id id before || eqb s.id id)
unfolding has_id
one_more id [] s = by-test (eqb s.id id)
  where
    by-test : (t : Bool) → (t || false) ≡ t
    by-test true = refl
    by-test false = refl
one_more id (x ∷ before) s = ap (λ (b : Bool). eqb x.id id || b) (one_more id before s) ∙ by-test (eqb x.id id)
  where
    by-test : (t : Bool) → (t || (has_id id before || eqb s.id id)) ≡ (t || has_id id before || eqb s.id id)
    by-test true = refl
    by-test false = refl

crosses-more : (before t : List Symbol) (s : Symbol) → crosses (before ++ (s ∷ [])) t ≡ (crosses before t || has_id s.id t)
unfolding crosses has_id
crosses-more before [] s = refl
crosses-more before (x ∷ t) s =
    (λ i. one_more x.id before s i || crosses-more before t s i)
    ∙ by_tests (has_id x.id before) (eqb s.id x.id) (crosses before t)
    ∙ ap (λ (b : Bool). has_id x.id before || crosses before t || (b || has_id s.id t)) (eqb-sym s.id x.id)
  where
    by_tests : (a b c : Bool) → (a || b || (c || has_id s.id t)) ≡ (a || c || (b || has_id s.id t))
    by_tests true b c = refl
    by_tests false true true = refl
    by_tests false true false = refl
    by_tests false false c = refl

-- after a free record all are free
after_free : (before t : List Symbol) (w : List ℕ) → onward true before t w ≡ all_free t
unfolding onward stands all_free
after_free before [] w = refl
after_free before (s ∷ t) w = by_first (free s) (after_free (before ++ (s ∷ [])) t (drop 48 w))
  where
    by_first : (f : Bool) → onward true (before ++ (s ∷ [])) t (drop 48 w) ≡ all_free t →
        (cond f true false && onward f (before ++ (s ∷ [])) t (drop 48 w)) ≡ (f && all_free t)
    by_first true e = e
    by_first false e = refl

free-states : (t : List Symbol) → all_free t ≡ true → known_states t ≡ true
unfolding all_free known_states
free-states [] e = refl
free-states (s ∷ t) e =
    let p = both (free s) (all_free t) e in
    rw (eqb-true s.state 0 p.0) (free-states t p.1)

free-passes : (s : Symbol) (w : List ℕ) → free s ≡ true → passes s.state s.layers w ≡ true
unfolding passes
free-passes s w e = rw (eqb-true s.state 0 e)

free-pass : (t : List Symbol) (w : List ℕ) → all_free t ≡ true → all_pass t w ≡ true
unfolding all_free all_pass
free-pass [] w e = refl
free-pass (s ∷ t) w e =
    let p = both (free s) (all_free t) e in
    rw (free-passes s (take 48 w) p.0) (free-pass t (drop 48 w) p.1)

-- what the pass asks of the records that are left, sentence by sentence
record Left (before t : List Symbol) (w : List ℕ) : Type 0 where
  states : known_states t ≡ true
  first : taken_first t ≡ true
  apart : crosses before (taken t) ≡ false
  ids : repeats (taken t) ≡ false
  pass : all_pass t w ≡ true

module _ (before : List Symbol) (s : Symbol) (t : List Symbol) (w : List ℕ) where
  left-free : free s ≡ true → all_free t ≡ true → Left before (s ∷ t) w
  unfolding known_states taken_first taken crosses repeats all_pass
  left-free q e =
      record {
        states = rw (eqb-true s.state 0 q) (free-states t e);
        first = rw q e;
        apart = rw (q, none-taken t e);
        ids = rw (q, none-taken t e);
        pass = rw (free-passes s (take 48 w) q) (free-pass t (drop 48 w) e);
      }

  module _ (q : free s ≡ false) where
    stands_by : stands false before s (take 48 w) ≡ true → (leb s.state 2 ≡ true) × (has_id s.id before ≡ false) × (passes s.state s.layers (take 48 w) ≡ true)
    unfolding stands
    stands_by e = by_tests (leb s.state 2) (has_id s.id before) (rw q at e)
      where
        by_tests : (k h : Bool) → cond k (cond h false (passes s.state s.layers (take 48 w))) false ≡ true →
            (k ≡ true) × (h ≡ false) × (passes s.state s.layers (take 48 w) ≡ true)
        by_tests false h e = absurd (false≢true e)
        by_tests true true e = absurd (false≢true e)
        by_tests true false e = (refl, refl, e)

    left-taken : stands false before s (take 48 w) ≡ true → Left (before ++ (s ∷ [])) t (drop 48 w) → Left before (s ∷ t) w
    unfolding known_states taken_first taken crosses repeats all_pass
    left-taken e r =
        let p = stands_by e in
        let a = neither (crosses before (taken t)) (has_id s.id (taken t)) (sym (crosses-more before (taken t) s) ∙ r.apart) in
        record {
          states = rw p.0 r.states;
          first = rw q r.first;
          apart = rw (q, p.1) a.0;
          ids = rw (q, a.1) r.ids;
          pass = rw p.2 r.pass;
        }

    taken-left : Left before (s ∷ t) w → (stands false before s (take 48 w) ≡ true) × Left (before ++ (s ∷ [])) t (drop 48 w)
    unfolding stands known_states taken_first taken crosses repeats all_pass
    taken-left r =
        let k = both (leb s.state 2) (known_states t) r.states in
        let a = neither (has_id s.id before) (crosses before (taken t)) (rw q at r.apart) in
        let i = neither (has_id s.id (taken t)) (repeats (taken t)) (rw q at r.ids) in
        let p = both (passes s.state s.layers (take 48 w)) (all_pass t (drop 48 w)) r.pass in (
          rw (q, k.0, a.0) p.0,
          record {
            states = k.1;
            first = rw q at r.first;
            apart = crosses-more before (taken t) s ∙ (rw (a.1, i.0));
            ids = i.1;
            pass = p.1;
          },
        )

to-left : (before t : List Symbol) (w : List ℕ) → onward false before t w ≡ true → Left before t w
unfolding onward known_states taken_first taken crosses repeats all_pass
to-left before [] w e = record { states = refl; first = refl; apart = refl; ids = refl; pass = refl }
to-left before (s ∷ t) w e =
    let p = both (stands false before s (take 48 w)) (onward (free s) (before ++ (s ∷ [])) t (drop 48 w)) e in
    by_first (free s) refl p.0 p.1 (to-left (before ++ (s ∷ [])) t (drop 48 w))
  where
    by_first : (f : Bool) → free s ≡ f → stands false before s (take 48 w) ≡ true → onward f (before ++ (s ∷ [])) t (drop 48 w) ≡ true →
        (onward false (before ++ (s ∷ [])) t (drop 48 w) ≡ true → Left (before ++ (s ∷ [])) t (drop 48 w)) → Left before (s ∷ t) w
    by_first true q a b ih = left-free before s t w q (sym (after_free (before ++ (s ∷ [])) t (drop 48 w)) ∙ b)
    by_first false q a b ih = left-taken before s t w q a (ih b)

of_left : (before t : List Symbol) (w : List ℕ) → Left before t w → onward false before t w ≡ true
unfolding onward stands taken_first
of_left before [] w r = refl
of_left before (s ∷ t) w r = by_first (free s) refl (of_left (before ++ (s ∷ [])) t (drop 48 w))
  where
    by_first : (f : Bool) → free s ≡ f → (Left (before ++ (s ∷ [])) t (drop 48 w) → onward false (before ++ (s ∷ [])) t (drop 48 w) ≡ true) →
        (stands false before s (take 48 w) && onward f (before ++ (s ∷ [])) t (drop 48 w)) ≡ true
    by_first true q ih = rw q (after_free (before ++ (s ∷ [])) t (drop 48 w) ∙ (rw q at r.first))
    by_first false q ih =
        let p = taken-left before s t w q r in
        rw p.0 (ih p.1)

alike : (a b : Bool) → (a ≡ true → b ≡ true) → (b ≡ true → a ≡ true) → a ≡ b
alike true b f g = sym (f refl)
alike false true f g = g refl
alike false false f g = refl

apart-from-none : (t : List Symbol) → crosses [] t ≡ false
unfolding crosses has_id
apart-from-none [] = refl
apart-from-none (s ∷ t) = apart-from-none t

-- the pass asks for the order, where there are few records and the store has their words
pub one-pass : (table : List Symbol) (w : List ℕ) → length table ≤ 128 → length w ≡ length table * 48 →
    onward false [] table w ≡ in_order table w
one-pass table w few full =
    alike (onward false [] table w) (in_order table w)
    (λ e.
    let r = to-left [] table w e in
    in_order_lem table w (record { few = few; states = r.states; first = r.first; ids = r.ids; pass = r.pass; full = full }))
    (λ e.
    let o = ordered table w e in
    of_left [] table w (record { states = o.states; first = o.first; apart = apart-from-none (taken table); ids = o.ids; pass = o.pass }))

-- the loop
module _ (ws w : List ℕ) (n : ℕ) where
  abbrev table : List Symbol
  table = read_from ws 0 n

  sized : length table ≡ n
  sized = length-read ws 0 n

  pub too_many : 128 < n → false ≡ in_order table w
  unfolding in_order
  too_many h = rw (sized, lt-leb n 128 h)

  pub start : n ≤ 128 → length w ≡ n * 48 → onward false (read_from ws 0 0) (from ws n 0) (drop (0 * 48) w) ≡ in_order table w
  unfolding read_from
  start few full =
      ap (λ (l : List Symbol). onward false [] l w) (read_all ws n)
      ∙ one-pass table w (rw sized few) (rw sized full)

  module _ (k : ℕ) (after v : Bool) (e : onward after (read_from ws 0 k) (from ws n k) (drop (k * 48) w) ≡ v) where
    pub ends : n ≤ k → true ≡ v
    unfolding onward
    ends h = rw (read-end ws n k h) at e

    module _ (r : Bool) (h : k < n) (q : r ≡ stands after (read_from ws 0 k) (row_at ws k) (take (k * 48 + 48 - k * 48) (drop (k * 48) w))) where
      turns : (r && onward (free (row_at ws k)) (read_from ws 0 (k + 1)) (from ws n (k + 1)) (drop ((k + 1) * 48) w)) ≡ v
      unfolding onward
      turns =
          let m : (k + 1) * 48 ≡ k * 48 + 48 = omega arith in
          let one : k * 48 + 48 - k * 48 ≡ 48 = omega arith in
          rw (q, one, read-last ws 0 k, zero-add k, m, ← drop-drop 48 (k * 48) w) (rw (read_more ws n k h) at e)

      pub breaks : r ≡ false → false ≡ v
      breaks t = rw t at turns

      pub goes_on : r ≡ true → onward (eqb (get_or ws (k + 384) 0) 0) (read_from ws 0 (k + 1)) (from ws n (k + 1)) (drop ((k + 1) * 48) w) ≡ v
      unfolding row_at
      goes_on t = rw t at turns

pub other_store : (ws w : List ℕ) (n : ℕ) → (length w ≡ n * 48 → ⊥) → false ≡ in_order (read_from ws 0 n) w
unfolding in_order
other_store ws w n h = last (leb (length (read_from ws 0 n)) 128 && known_states (read_from ws 0 n) && taken_first (read_from ws 0 n) && not (repeats (taken (read_from ws 0 n))) && all_pass (read_from ws 0 n) w) _ (rw (length-read ws 0 n) (ne_eqb (length w) (n * 48) h))
  where
    last : (a b : Bool) → b ≡ false → false ≡ (a && b)
    last true b e = sym e
    last false b e = refl

-- the ids of the rows passed, noted
pub still_full : (noted : List Bool) (i : ℕ) (b : Bool) → length noted ≡ 512 → length (set noted i b) ≡ 512
still_full noted i b e = simp length-set e

module _ (noted : List Bool) (ws : List ℕ) (k : ℕ) (full : length noted ≡ 512) (old : Noted noted ws k) where
  abbrev place : ℕ → ℕ
  place i = get_or ws i 0 % 512

  earlier : (i : ℕ) → i < k + 1 → (place i ≡ place k → ⊥) → i < k
  earlier i h off =
      let other : i ≢ k = λ e. off (ap place e) in
      omega arith

  noted-there : (i : ℕ) → i < k + 1 → (t : Bool) → eqb (place i) (place k) ≡ t → get_or (set noted (place k) true) (place i) false ≡ true
  noted-there i h true e =
      let within : place k < length noted = omega (arith, full) in
      ap (λ (j : ℕ). get_or (set noted (place k) true) j false) (eqb-true (place i) (place k) e) ∙ get_or-set_same noted (place k) true false within
  noted-there i h false e =
      let off = eqb-false (place i) (place k) e in
      get_or-set_other noted (place k) (place i) true false off ∙ old.before i (earlier i h off)

  pub noted_more : Noted (set noted (place k) true) ws (k + 1)
  noted_more = record { before = λ i h. noted-there i h (eqb (place i) (place k)) refl }

none_has : (id : ℕ) (ws : List ℕ) (i k : ℕ) → ((j : ℕ) → j < k → get_or ws (i + j) 0 ≡ id → ⊥) → has_id id (read_from ws i k) ≡ false
unfolding has_id read_from row_at
none_has id ws i zero off = refl
none_has id ws i (suc k) off =
    let m : i + 0 ≡ i = omega arith in
    rw (ne_eqb (get_or ws i 0) id (λ q. off 0 (omega arith) (ap (λ (j : ℕ). get_or ws j 0) m ∙ q)))
    (none_has id ws (suc i) k (λ j h q.
    let m : i + suc j ≡ suc i + j = omega arith in
    off (suc j) (omega arith) (ap (λ (l : ℕ). get_or ws l 0) m ∙ q)))

-- an id that is not noted is new
pub not_noted : (noted : List Bool) (ws : List ℕ) (k id : ℕ) → Noted noted ws k → get_or noted (id % 512) false ≡ false →
    false ≡ has_id id (read_from ws 0 k)
not_noted noted ws k id old new =
    sym (none_has id ws 0 k (λ j h q.
    true≢false (sym (old.before j h) ∙ ap (λ (l : ℕ). get_or noted (l % 512) false) (ap (λ (l : ℕ). get_or ws l 0) (sym (zero-add j)) ∙ q) ∙ new)))

-- an id among the rows, with one row more
pub id_none : (ws : List ℕ) (id : ℕ) → false ≡ has_id id (read_from ws 0 0)
unfolding has_id read_from
id_none ws id = refl

pub id_more : (ws : List ℕ) (k id i : ℕ) → i < length (take k ws) →
    (has_id id (read_from ws 0 i) || eqb (get_or (take k ws) i 0) id) ≡ has_id id (read_from ws 0 (i + 1))
unfolding row_at
id_more ws k id i h =
    let within : i < k = omega (arith, simp length-take at h) in
    ap (λ (x : ℕ). has_id id (read_from ws 0 i) || eqb x id) (get_or-take k ws i 0 within ∙ ap (λ (j : ℕ). get_or ws j 0) (sym (zero-add i)))
    ∙ sym (ap (has_id id) (read-last ws 0 i) ∙ one_more id (read_from ws 0 i) (row_at ws (0 + i)))
