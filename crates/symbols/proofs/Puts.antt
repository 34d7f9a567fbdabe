-- What follows from the rules alone of a put: of nothing, under a poisoned name, and of a type that is accepted.
-- Assumes nothing.
use mathlib.Core.Path.{◌≡◌, refl, sym, ap, subst, ◌∙◌}
use mathlib.Core.Bool.{Bool, true, false, cond, not, ◌||◌, false≢true}
use mathlib.Core.List.{List}
use mathlib.Core.Logic.{◌≢◌}
use Prim.Native.Nat.{ℕ, ◌*◌, ◌%◌, ◌≤◌, ◌<◌}
use native.Mathlib.Omega.{arith}
use lib.Dec.{eqb, leb}
use lib.ListN.{length, drop, get_or, set, length-set, take-append-drop}
use lib.Seq.{set-get_or, get_or-set_same}
use borrow.Author.Tests.{eq-eqb, ne_eqb, lt-ltb, lt-leb, leb-true, leb-false, eqb-false}
use Rattle.type_layers.specs.Answer as paper
use Rattle.type_layers.specs.Answer.{given, nothing, refused}
use Rattle.type_layers.specs.Layers.{layers}
use Rattle.type_checks.specs.Check.{check_of}
use Rattle.relation_equals.specs.Equals.{identical}
use Rattle.relation_declared.specs.Declared.{concretization}
use Rattle.relation_equals.proofs.Theorems.{identical-reflexive}
use Rattle.symbol_columns.specs.declared.symbol.Symbol.{Symbol}
use Rattle.symbol_columns.specs.Record.{vacant, free}
use Rattle.symbol_columns.specs.StoredWords.{slot_words, stored_words}
use Rattle.symbol_search.specs.Search.{slot_for}
use Rattle.symbol_order.specs.Order.{in_order}
use Rattle.symbol_order.proofs.Ordered.{ordered, in_order_lem}
use Rattle.symbols.proofs.Setting.{state-at, slot-taken, slot_kept, slot-written}
use Rattle.write_answer.specs.Flat.{accepted}
use Rattle.symbol_update.proofs.Cases.{by_lines}
use Rattle.symbol_update.proofs.Theorems.{poison-wins as update-poison, accepted-holds-offered}
use Rattle.symbol_operations.specs.Act as act
use Rattle.symbol_operations.specs.Operation.{put_nothing, acts}
use Rattle.symbol_slot.specs.Slot.{place_of, unless, way_of}
use Rattle.symbol_record.specs.Deed.{Deed, overwrites}
use Rattle.symbol_change.specs.Change.{Outcome, with_slot, outcome_by, outcome}
use Rattle.symbol_get.specs.Get.{mark_for, got, type_in, type_of}
use Rattle.symbol_get.specs.Got as got'
use Rattle.symbol_get.specs.Got.{Got}
use Rattle.symbol_slot.specs.Way as way
use Rattle.symbol_slot.specs.Way.{Way}
use Rattle.symbol_slot.proofs.Decided.{Within, found-is, found_in, found-checked, not_refused}
use Rattle.symbols.proofs.Deeds.{few_words, whole-layers}
use Rattle.symbols.proofs.Numbered.{numbered, way-numbered}
use Rattle.symbols.proofs.Theorems.{all, found-fine, found-order, way_finds, held}

-- "Put with nothing: accepted, unchanged.", of a table in order.
pub put-of-nothing : (id : ℕ) (authority : Bool) (place mark : ℕ) (offered : List ℕ) (table : List Symbol) (store : List ℕ) → in_order table store ≡ true →
    outcome put_nothing id authority place mark offered table store ≡ record { answer = accepted 0; table = table; store = store }
unfolding outcome
put-of-nothing id authority place mark offered table store o = rw o

-- Poison wins until a forward declaration: a put of a type under a poisoned name is accepted and changes nothing.
module _ (id : ℕ) (authority : Bool) (place mark : ℕ) (offered : List ℕ) (table : List Symbol) (store : List ℕ) where
  abbrev is_poisoned : Got → Bool
  is_poisoned got'.absent = false
  is_poisoned (got'.typed k) = false
  is_poisoned (got'.poisoned m) = true
  is_poisoned (got'.refused n p) = false

  under-poison : (asking : Bool) (m : ℕ) → got id asking table store ≡ got'.poisoned m →
      (in_order table store ≡ true) × (leb (length table) (slot_for id table) ≡ false) × (eqb (get_or table (slot_for id table) vacant).state 1 ≡ false)
  unfolding got
  under-poison asking m e =
      by_parts (in_order table store) (leb (length table) (slot_for id table)) (eqb (get_or table (slot_for id table) vacant).state 1) (ap is_poisoned e)
    where
      by_parts : (o t u : Bool) →
          is_poisoned (cond o (cond t got'.absent (cond u (got'.typed (slot_for id table)) (got'.poisoned (mark_for asking (get_or table (slot_for id table) vacant).mark)))) (got'.refused 12 0)) ≡ true →
          (o ≡ true) × (t ≡ false) × (u ≡ false)
      by_parts false t u f = absurd (false≢true f)
      by_parts true true u f = absurd (false≢true f)
      by_parts true false true f = absurd (false≢true f)
      by_parts true false false f = (refl, refl, refl)

  pub poison-wins : (asking : Bool) (m : ℕ) → got id asking table store ≡ got'.poisoned m → not_refused (check_of offered) ≡ true →
      outcome (acts act.put_type) id authority place mark offered table store ≡ record { answer = accepted 0; table = table; store = store }
  unfolding outcome way_of place_of
  poison-wins asking m e good =
      let k = slot_for id table in
      let s = get_or table k vacant in
      let parts = under-poison asking m e in
      let order = ordered table store parts.0 in
      let below : k < length table = leb-false (length table) k parts.1 in
      let taken-there : s.state ≢ 0 = eqb-false s.state 0 (slot-taken id table below) in
      let not-typed : s.state ≢ 1 = eqb-false s.state 1 parts.2 in
      let known : s.state ≤ 2 = leb-true s.state 2 (state-at table k order.states below) in
      let two : s.state ≡ 2 = omega (arith, known, taken-there, not-typed) in
      let wins = update-poison s (slot_words store k) id authority place offered two in
      by-check (check_of offered) good
      (rw (parts.0, lt-ltb k (length table) below, wins.0, wins.1, set-get_or, take-append-drop 48 (drop (k * 48) store), take-append-drop (k * 48) store))
    where
      by-check : (a : paper.Answer ℕ) → not_refused a ≡ true →
          outcome_by (place_of id table store) act.put_type id authority place mark offered table store ≡ record { answer = accepted 0; table = table; store = store } →
          outcome_by (unless a (place_of id table store)) act.put_type id authority place mark offered table store ≡ record { answer = accepted 0; table = table; store = store }
      by-check (given n) g h = h
      by-check nothing g h = h
      by-check (refused n p) g h = absurd (false≢true g)

-- After an accepted put of a type under a name that is not poisoned, the type that get answers is identical to the offered
-- one or a concretization of it.
module _ (id : ℕ) (authority : Bool) (place mark : ℕ) (offered : List ℕ) (table : List Symbol) (store : List ℕ) where
  abbrev put : Outcome
  put = outcome (acts act.put_type) id authority place mark offered table store

  abbrev part : ℕ → List ℕ
  part k = slot_words store k

  abbrev Suits : List ℕ → Type 0
  Suits ws = (identical (layers ws) (layers offered) || concretization (layers ws) (layers offered)) ≡ true

  -- a typed record at the slot of its id is what get finds, and its words are those that the update speaks of
  typed-there : (k : ℕ) (d : Deed) → Within table store k → length d.words ≡ 48 → d.symbol.state ≡ 1 →
      slot_for id (set table k d.symbol) ≡ k → in_order (set table k d.symbol) (with_slot store k d.words) ≡ true →
      type_of id (set table k d.symbol) (with_slot store k d.words) ≡ stored_words d.symbol.layers d.words
  unfolding type_of got
  typed-there k d w all one s order =
      let table' = set table k d.symbol in
      let store' = with_slot store k d.words in
      let n : length table' ≡ length table = length-set table k d.symbol in
      let is : get_or table' k vacant ≡ d.symbol = get_or-set_same table k d.symbol vacant w.below in
      let room : k * 48 ≤ length store = omega (arith, w.below, w.order.full) in
      let below : k < length table' = omega (arith, n, w.below) in
      let found : got id true table' store' ≡ got'.typed k = rw (order, s, lt-leb (length table') k below, is, eq-eqb d.symbol.state 1 one) in
      ap (λ (g : Got). type_in g table' store') found ∙ (rw (is, slot-written store k d.words room all))

  module _ (k : ℕ) (e : way_of act.put_type id offered table store ≡ way.found k) (clean : (m : ℕ) → got id true table store ≡ got'.poisoned m → ⊥) where
    abbrev s : Symbol
    s = get_or table k vacant

    in_table : Within table store k
    in_table = found_in act.put_type id offered table store k e

    not-poisoned : s.state ≡ 2 → ⊥
    unfolding got
    not-poisoned two =
        let at = found-is act.put_type id offered table store k e in
        clean s.mark
        (rw (in_order_lem table store in_table.order, ← at, lt-leb (length table) k in_table.below, ne_eqb s.state 1 (λ q. omega (arith, q, two))))

    is-typed : s.state ≡ 1
    is-typed =
        let at = found-is act.put_type id offered table store k e in
        let below = subst (λ (j : ℕ). j < length table) at in_table.below in
        let taken-there : s.state ≢ 0 = eqb-false s.state 0 (subst (λ (j : ℕ). free (get_or table j vacant) ≡ false) (sym at) (slot-taken id table below)) in
        let known : s.state ≤ 2 = leb-true s.state 2 (state-at table k in_table.order.states in_table.below) in
        omega (arith, known, taken-there, not-poisoned)

    abbrev d : Deed
    d = overwrites act.put_type s (part k) id authority place mark offered

    still-typed : d.symbol.state ≡ 1
    still-typed = by_lines s (part k) id authority place offered (λ r zs a. r.state ≡ 1) is-typed is-typed refl refl is-typed

    found-suits : d.answer.refusal ≡ 0 → Suits (type_of id (set table k d.symbol) (with_slot store k d.words))
    found-suits r =
        let at = found-is act.put_type id offered table store k e in
        let below = subst (λ (j : ℕ). j < length table) at in_table.below in
        let fine = found-fine act.put_type id authority place mark offered table store k e in
        let good = found-checked act.put_type id offered table store k e in
        let slot = ap (λ (j : ℕ). slot_for id (set table j d.symbol)) at ∙ slot_kept id table d.symbol below fine.named fine.taken ∙ sym at in
        let order = in_order_lem (set table k d.symbol) (with_slot store k d.words) (found-order act.put_type id authority place mark offered table store k e) in
        let full = all act.put_type id authority place mark offered table store k in_table in
        let room : length offered ≤ length (part k) = omega (arith, few_words offered good, full) in
        let whole : length offered % 3 ≡ 0 = omega (arith, whole-layers offered good) in
        subst Suits (sym (typed-there k d in_table (fine.sized ∙ full) still-typed slot order))
        (accepted-holds-offered s (part k) id authority place offered room whole not-poisoned r)

  pub accepted-put-holds : ((m : ℕ) → got id true table store ≡ got'.poisoned m → ⊥) → put.answer.refusal ≡ 0 →
      Suits (type_of id put.table put.store)
  unfolding outcome
  accepted-put-holds clean r = by_way (way_of act.put_type id offered table store) refl r
    where
      by_way : (w : Way) → way_of act.put_type id offered table store ≡ w →
          let o = outcome_by w act.put_type id authority place mark offered table store in o.answer.refusal ≡ 0 → Suits (type_of id o.table o.store)
      by_way (way.refused n p) e r =
          absurd (false≢true (sym (ap (λ (m : ℕ). not (eqb m 0)) r) ∙ (ap numbered (sym e) ∙ way-numbered act.put_type id offered table store)))
      by_way (way.found k) e r = found-suits k e clean r
      by_way (way.free k) e r =
          let o = outcome_by (way.free k) act.put_type id authority place mark offered table store in
          let h = way_finds act.put_type id authority place mark offered table store (way.free k) e tt r (λ q. omega (arith, q)) in
          subst Suits (sym (held id offered o h)) (rw (identical-reflexive (layers offered)))
