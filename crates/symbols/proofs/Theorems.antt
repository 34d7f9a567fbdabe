-- What follows from the rules of a table alone.
-- Assumes nothing.
use mathlib.Core.Path.{◌≡◌, refl, sym, ap, subst, ◌∙◌}
use mathlib.Core.Bool.{Bool, true, false, cond, not, ◌&&◌, and-false, true≢false, false≢true}
use mathlib.Core.List.{List, ◌++◌}
use mathlib.Core.Logic.{◌≢◌}
use Prim.Native.Nat.{ℕ, ◌+◌, ◌-◌, ◌*◌, ◌≤◌, ◌<◌}
use native.Mathlib.Omega.{arith}
use lib.Dec.{eqb, leb, ltb}
use lib.ListN.{length, take, drop, get_or, set, length-set, length-append, length-drop, take-append-drop}
use lib.Seq.{set-get_or, length-take-le, get_or-set_same, get_or-set_other, take_at, drop_at}
use borrow.Author.Tests.{ltb-true, ltb-false, eq-eqb, lt-leb, leb-false}
use Rattle.type_checks.specs.Check.{check_of}
use Rattle.write_words.specs.Written.{written}
use Rattle.write_words.proofs.Writing.{length-written}
use Rattle.symbol_columns.specs.declared.symbol.Symbol.{Symbol}
use Rattle.symbol_columns.specs.Record.{vacant, free}
use Rattle.symbol_columns.specs.StoredWords.{slot_words, stored_words}
use Rattle.symbol_search.specs.Search.{slot_for}
use Rattle.symbol_order.specs.Order.{passes, in_order, taken_first, taken, has_id, repeats}
use Rattle.symbol_search.proofs.Searching.{slot_has}
use Rattle.symbol_order.proofs.Ordered.{Ordered, in_order_lem, pass-at}
use Rattle.symbols.proofs.Setting.{states-set, state-at, first-set, first-new, ids-kept, ids-new, absent-id, pass-set, slot-taken, slot-other, slot_kept, slot-new, free-at, words-before, words-after, slot-written, turned_round}
use Rattle.write_answer.specs.declared.answer.Answer.{Answer}
use Rattle.write_answer.specs.Flat.{accepted, not_accepted}
use Rattle.symbol_update.specs.Update.{typed}
use Rattle.symbol_update.proofs.Cases.{by_lines}
use Rattle.symbol_operations.specs.Act as act
use Rattle.symbol_operations.specs.Act.{Act}
use Rattle.symbol_operations.specs.Operation.{Operation, put_nothing, acts}
use Rattle.symbol_slot.specs.Slot.{offered_check, way_of}
use Rattle.symbol_record.specs.Deed.{Deed, deed, overwrites}
use Rattle.symbol_change.specs.Change.{inserts, Outcome, with_slot, at_slot, outcome_by, outcome}
use Rattle.symbol_get.specs.Get.{mark_for, got, type_in, type_of}
use Rattle.symbol_get.specs.Got as got'
use Rattle.symbol_get.specs.Got.{Got}
use Rattle.symbol_slot.specs.Way as way
use Rattle.symbol_slot.specs.Way.{Way}
use Rattle.symbol_slot.proofs.Decided.{Within, found-is, found_in, found-has, new_is, new_in, new-absent, found-checked, new-checked, not_refused}
use Rattle.symbols.proofs.Deeds.{Fine, inserts-fine, overwrites-fine, words-there}
use Rattle.symbols.proofs.Numbered.{numbered, way-numbered}

-- refused, or accepted with 0
abbrev pub Quiet : Answer → Type 0
Quiet a = a.refusal ≡ 0 → a.value ≡ 0

-- No act touches the record or the words of another id.
abbrev Apart : List Symbol → List ℕ → ℕ → Outcome → Type 0
Apart table store j o =
    (slot_for j o.table ≡ slot_for j table)
    × (slot_for j table < length table →
    (get_or o.table (slot_for j table) vacant ≡ get_or table (slot_for j table) vacant)
    × (slot_words o.store (slot_for j table) ≡ slot_words store (slot_for j table)))

-- A type that was written is what get finds: its slot, and there its words.
abbrev Holds : ℕ → List ℕ → Outcome → Type 0
Holds id offered o =
    (k : ℕ) × (((asking : Bool) → got id asking o.table o.store ≡ got'.typed k)
    × (stored_words (get_or o.table k vacant).layers (slot_words o.store k) ≡ offered))

pub held : (id : ℕ) (offered : List ℕ) (o : Outcome) → Holds id offered o → type_of id o.table o.store ≡ offered
unfolding type_of
held id offered o h = ap (λ (g : Got). type_in g o.table o.store) (h.1.0 true) ∙ h.1.1

abbrev Offers : Act → Type 0
Offers act.put_type = Unit
Offers act.put_poison = ⊥
Offers act.forward_type = Unit
Offers act.forward_poison = ⊥

module _ (a : Act) (id : ℕ) (authority : Bool) (place mark : ℕ) (offered : List ℕ) (table : List Symbol) (store : List ℕ) where
  abbrev by : Way → Outcome
  by w = outcome_by w a id authority place mark offered table store

  abbrev slot : ℕ → List ℕ
  slot k = slot_words store k

  abbrev rest : ℕ → List ℕ
  rest k = drop 48 (drop (k * 48) store)

  -- What is refused, or accepted with 0, leaves every record and every word.
  abbrev Kept : ℕ → Symbol → List ℕ → Answer → Type 0
  Kept k s ws x = Quiet x → (set table k s ≡ table) × (with_slot store k ws ≡ store)

  same : (k : ℕ) (x : Answer) → Kept k (get_or table k vacant) (slot k) x
  same k x h = (
    set-get_or table k vacant,
    ap (λ (ws : List ℕ). take (k * 48) store ++ ws) (take-append-drop 48 (drop (k * 48) store)) ∙ take-append-drop (k * 48) store,
  )

  found-quiet : (x : Act) (k : ℕ) → let d = overwrites x (get_or table k vacant) (slot k) id authority place mark offered in Kept k d.symbol d.words d.answer
  found-quiet act.put_type k =
      by_lines (get_or table k vacant) (slot k) id authority place offered (Kept k) (same k (accepted 0)) (same k (not_accepted 4 0))
      (λ h. absurd (omega (arith, h refl))) (λ h. absurd (omega (arith, h refl))) (same k (not_accepted 7 0))
  found-quiet act.put_poison k = λ h. absurd (omega (arith, h refl))
  found-quiet act.forward_type k = λ h. absurd (omega (arith, h refl))
  found-quiet act.forward_poison k = λ h. absurd (omega (arith, h refl))

  new-quiet : (x : Act) (k : ℕ) → let d = inserts x (slot k) id authority place mark offered in Kept k d.symbol d.words d.answer
  new-quiet act.put_type k = λ h. absurd (omega (arith, h refl))
  new-quiet act.put_poison k = λ h. absurd (omega (arith, h refl))
  new-quiet act.forward_type k = λ h. absurd (omega (arith, h refl))
  new-quiet act.forward_poison k = λ h. absurd (omega (arith, h refl))

  way-quiet : (w : Way) → Quiet (by w).answer → ((by w).table ≡ table) × ((by w).store ≡ store)
  way-quiet (way.refused n p) h = (refl, refl)
  way-quiet (way.found k) h = found-quiet a k h
  way-quiet (way.free k) h = new-quiet a k h

  -- A table that was in order stays in order.
  pub all : (k : ℕ) → Within table store k → length (slot k) ≡ 48
  all k i =
      let left = length-drop (k * 48) store in
      length-take-le 48 (drop (k * 48) store) (omega (arith, left, i.below, i.order.full))

  long : (k : ℕ) → Within table store k → 48 ≤ length (slot k)
  long k i = omega (arith, all k i)

  set-order : (k : ℕ) (d : Deed) → Within table store k → Fine id (slot k) d → taken_first (set table k d.symbol) ≡ true →
      repeats (taken (set table k d.symbol)) ≡ false → Ordered (set table k d.symbol) (with_slot store k d.words)
  set-order k d i f first ids =
      let room : k * 48 ≤ length store = omega (arith, i.below, i.order.full) in
      let n : length (set table k d.symbol) ≡ length table = length-set table k d.symbol in
      let m : length d.words ≡ 48 = f.sized ∙ all k i in
      let its : passes d.symbol.state d.symbol.layers (take 48 (d.words ++ rest k)) ≡ true = rw (take_at d.words (rest k) 48 m) f.pass in
      let left : length (rest k) ≡ length store - k * 48 - 48 = simp length-drop refl in
      let more : length (d.words ++ rest k) ≡ length d.words + length (rest k) = length-append d.words (rest k) in
      record {
        few = omega (arith, n, i.order.few);
        states = states-set table k d.symbol i.order.states f.known;
        first = first;
        ids = ids;
        pass = pass-set table store k d.symbol (d.words ++ rest k) i.order.pass i.below i.order.full its (drop_at d.words (rest k) 48 m);
        full =
            length-append (take (k * 48) store) (d.words ++ rest k)
            ∙ omega (arith, n, m, left, more, length-take-le (k * 48) store room, i.below, i.order.full);
      }

  module _ (k : ℕ) where
    module _ (e : way_of a id offered table store ≡ way.found k) where
      abbrev old : Symbol
      old = get_or table k vacant

      there : Within table store k
      there = found_in a id offered table store k e

      was : free old ≡ false
      was = subst (λ (j : ℕ). free (get_or table j vacant) ≡ false) (sym (found-is a id offered table store k e))
          (slot-taken id table (subst (λ (j : ℕ). j < length table) (found-is a id offered table store k e) there.below))

      pub found-fine : Fine id (slot k) (overwrites a old (slot k) id authority place mark offered)
      found-fine =
          overwrites-fine id authority place mark offered (slot k) (long k there) old (found-has a id offered table store k e)
          (state-at table k there.order.states there.below) was (pass-at table store k there.order.pass)
          a (found-checked a id offered table store k e)

      pub found-order : Ordered (by (way.found k)).table (by (way.found k)).store
      found-order =
          let d = overwrites a old (slot k) id authority place mark offered in
          set-order k d there found-fine
          (first-set table k d.symbol there.order.first there.below was found-fine.taken)
          (ids-kept table k d.symbol there.below was found-fine.taken (found-fine.named ∙ sym (found-has a id offered table store k e)) ∙ there.order.ids)

    module _ (e : way_of a id offered table store ≡ way.free k) where
      here : Within table store k
      here = new_in a id offered table store k e

      new-fine : Fine id (slot k) (inserts a (slot k) id authority place mark offered)
      new-fine = inserts-fine id authority place mark offered (slot k) (long k here) a (new-checked a id offered table store k e)

      new-order : Ordered (by (way.free k)).table (by (way.free k)).store
      new-order =
          let d = inserts a (slot k) id authority place mark offered in
          let at = new_is a id offered table store k e in
          let below = subst (λ (j : ℕ). j < length table) at here.below in
          let unused = subst (λ (j : ℕ). has_id j (taken table) ≡ false) (sym new-fine.named) (absent-id id table (new-absent a id offered table store k e)) in
          set-order k d here new-fine
          (subst (λ (j : ℕ). taken_first (set table j d.symbol) ≡ true) (sym at) (first-new table d.symbol here.order.first below new-fine.taken))
          (subst (λ (j : ℕ). repeats (taken (set table j d.symbol)) ≡ false) (sym at) (ids-new table d.symbol here.order.first below new-fine.taken unused here.order.ids))

  way-order : (w : Way) → way_of a id offered table store ≡ w → in_order table store ≡ true → in_order (by w).table (by w).store ≡ true
  way-order (way.refused n p) e o = o
  way-order (way.found k) e o = in_order_lem (by (way.found k)).table (by (way.found k)).store (found-order k e)
  way-order (way.free k) e o = in_order_lem (by (way.free k)).table (by (way.free k)).store (new-order k e)

  set_apart : (j k : ℕ) (d : Deed) → eqb j id ≡ false → Within table store k → Fine id (slot k) d →
      (eqb (get_or table k vacant).id j && not (free (get_or table k vacant))) ≡ false → Apart table store j (at_slot k d table store)
  set_apart j k d other i f was =
      let named : eqb d.symbol.id j ≡ false = rw f.named (turned_round j id other) in
      let now : (eqb d.symbol.id j && not (free d.symbol)) ≡ false = rw named in
      let room : k * 48 ≤ length store = omega (arith, i.below, i.order.full) in (
        slot-other j table k d.symbol i.below was now,
        λ h.
            let apart : slot_for j table ≢ k =
            λ q. true≢false (sym (found-there h) ∙ ap (λ (n : ℕ). eqb (get_or table n vacant).id j && not (free (get_or table n vacant))) q ∙ was) in
            (get_or-set_other table k (slot_for j table) d.symbol vacant apart, words (slot_for j table) apart room),
      )
    where
      found-there : slot_for j table < length table → (eqb (get_or table (slot_for j table) vacant).id j && not (free (get_or table (slot_for j table) vacant))) ≡ true
      found-there h = rw (eq-eqb (get_or table (slot_for j table) vacant).id j (slot_has j table h), slot-taken j table h)

      follows : drop 48 (d.words ++ rest k) ≡ rest k
      follows = drop_at d.words (rest k) 48 (f.sized ∙ all k i)

      words : (n : ℕ) → n ≢ k → k * 48 ≤ length store → slot_words (with_slot store k d.words) n ≡ slot_words store n
      words n apart room = by_side (ltb n k) refl
        where
          by_side : (t : Bool) → ltb n k ≡ t → slot_words (with_slot store k d.words) n ≡ slot_words store n
          by_side true q = words-before store (d.words ++ rest k) k n room follows (ltb-true n k q)
          by_side false q = ap (take 48) (words-after store (d.words ++ rest k) k n room follows (omega (arith, ltb-false n k q, apart)))

  way_apart : (j : ℕ) → eqb j id ≡ false → (w : Way) → way_of a id offered table store ≡ w → Apart table store j (by w)
  way_apart j other (way.refused n p) e = (refl, λ h. (refl, refl))
  way_apart j other (way.found k) e =
      set_apart j k (overwrites a (get_or table k vacant) (slot k) id authority place mark offered) other (found_in a id offered table store k e) (found-fine k e)
      (rw (found-has a id offered table store k e, turned_round j id other))
  way_apart j other (way.free k) e =
      let vacated : free (get_or table k vacant) ≡ true = subst (λ (n : ℕ). free (get_or table n vacant) ≡ true) (sym (new_is a id offered table store k e))
      (free-at table (subst (λ (n : ℕ). n < length table) (new_is a id offered table store k e) (new_in a id offered table store k e).below)) in
      set_apart j k (inserts a (slot k) id authority place mark offered) other (new_in a id offered table store k e) (new-fine k e)
      (rw (vacated, and-false))

  way-sized : (w : Way) → length (by w).table ≡ length table
  way-sized (way.refused n p) = refl
  way-sized (way.found k) = length-set table k _
  way-sized (way.free k) = length-set table k _

  wrote : (k : ℕ) (i : ℕ) (au : Bool) (pl : ℕ) (x : Answer) → let o = at_slot k (deed (typed i au pl offered) (written offered (slot k)) x) table store in
      Within table store k → not_refused (check_of offered) ≡ true → slot_for id o.table ≡ k → in_order o.table o.store ≡ true → Holds id offered o
  unfolding got
  wrote k i au pl x w e s order =
      let o = at_slot k (deed (typed i au pl offered) (written offered (slot k)) x) table store in
      let n : length o.table ≡ length table = length-set table k (typed i au pl offered) in
      let is : get_or o.table k vacant ≡ typed i au pl offered = get_or-set_same table k (typed i au pl offered) vacant w.below in
      let room : k * 48 ≤ length store = omega (arith, w.below, w.order.full) in
      let below : k < length o.table = omega (arith, n, w.below) in
      let words = slot-written store k (written offered (slot k)) room (length-written offered (slot k) ∙ all k w) in (
        k,
        (
          (λ asking. rw (order, s, lt-leb (length o.table) k below, is)),
          rw (is, words) (words-there offered e (slot k) (long k w)),
        ),
      )

  abbrev Finds : ℕ → Symbol → List ℕ → Answer → Type 0
  Finds k s ws x =
      slot_for id (set table k s) ≡ k → in_order (set table k s) (with_slot store k ws) ≡ true → x.refusal ≡ 0 → (x.value ≡ 0 → ⊥) →
      Holds id offered (at_slot k (deed s ws x) table store)

  found-finds : (x : Act) (k : ℕ) → Offers x → Within table store k → not_refused (offered_check x offered) ≡ true →
      let d = overwrites x (get_or table k vacant) (slot k) id authority place mark offered in Finds k d.symbol d.words d.answer
  found-finds act.put_type k t w e =
      let s = get_or table k vacant in
      by_lines s (slot k) id authority place offered (Finds k)
      (λ q o r v. absurd (v refl))
      (λ q o r v. absurd (omega (arith, r)))
      (λ q o r v. wrote k s.id s.authority s.place (accepted 1) w e q o)
      (λ q o r v. wrote k id authority place (accepted 2) w e q o)
      (λ q o r v. absurd (omega (arith, r)))
  found-finds act.put_poison k t w e = absurd t
  found-finds act.forward_type k t w e = λ q o r v. wrote k id authority place (accepted 4) w e q o
  found-finds act.forward_poison k t w e = absurd t

  new-finds : (x : Act) (k : ℕ) → Offers x → Within table store k → not_refused (offered_check x offered) ≡ true →
      let d = inserts x (slot k) id authority place mark offered in Finds k d.symbol d.words d.answer
  new-finds act.put_type k t w e = λ q o r v. wrote k id authority place (accepted 3) w e q o
  new-finds act.put_poison k t w e = absurd t
  new-finds act.forward_type k t w e = λ q o r v. wrote k id authority place (accepted 3) w e q o
  new-finds act.forward_poison k t w e = absurd t

  pub way_finds : (w : Way) → way_of a id offered table store ≡ w → Offers a → (by w).answer.refusal ≡ 0 → ((by w).answer.value ≡ 0 → ⊥) → Holds id offered (by w)
  way_finds (way.refused n p) e t r v =
      absurd (false≢true (sym (ap (λ (m : ℕ). not (eqb m 0)) r) ∙ (ap numbered (sym e) ∙ way-numbered a id offered table store)))
  way_finds (way.found k) e t r v =
      let d = overwrites a (get_or table k vacant) (slot k) id authority place mark offered in
      let at = found-is a id offered table store k e in
      let below = subst (λ (j : ℕ). j < length table) at (found_in a id offered table store k e).below in
      found-finds a k t (found_in a id offered table store k e) (found-checked a id offered table store k e)
      (ap (λ (j : ℕ). slot_for id (set table j d.symbol)) at ∙ slot_kept id table d.symbol below (found-fine k e).named (found-fine k e).taken ∙ sym at)
      (in_order_lem (by (way.found k)).table (by (way.found k)).store (found-order k e)) r v
  way_finds (way.free k) e t r v =
      let d = inserts a (slot k) id authority place mark offered in
      let at = new_is a id offered table store k e in
      let below = subst (λ (j : ℕ). j < length table) at (new_in a id offered table store k e).below in
      new-finds a k t (new_in a id offered table store k e) (new-checked a id offered table store k e)
      (ap (λ (j : ℕ). slot_for id (set table j d.symbol)) at ∙ slot-new id table d.symbol (new-absent a id offered table store k e) below (new-fine k e).named (new-fine k e).taken ∙ sym at)
      (in_order_lem (by (way.free k)).table (by (way.free k)).store (new-order k e)) r v

module _ (op : Operation) (id : ℕ) (authority : Bool) (place mark : ℕ) (offered : List ℕ) (table : List Symbol) (store : List ℕ) where
  abbrev after : Outcome
  after = outcome op id authority place mark offered table store

  pub unchanged : Quiet after.answer → (after.table ≡ table) × (after.store ≡ store)
  unfolding outcome
  unchanged = by-operation op
    where
      by-operation : (o : Operation) → let r = outcome o id authority place mark offered table store in
          Quiet r.answer → (r.table ≡ table) × (r.store ≡ store)
      by-operation put_nothing h = (refl, refl)
      by-operation (acts a) h = way-quiet a id authority place mark offered table store (way_of a id offered table store) h

  pub refused-changes-nothing : (after.answer.refusal ≡ 0 → ⊥) → (after.table ≡ table) × (after.store ≡ store)
  refused-changes-nothing h = unchanged (λ e. absurd (h e))

  pub keeps-order : in_order table store ≡ true → in_order after.table after.store ≡ true
  unfolding outcome
  keeps-order h = by-operation op
    where
      by-operation : (o : Operation) → let r = outcome o id authority place mark offered table store in in_order r.table r.store ≡ true
      by-operation put_nothing = h
      by-operation (acts a) = way-order a id authority place mark offered table store (way_of a id offered table store) refl h

  pub others-kept : (j : ℕ) → eqb j id ≡ false → Apart table store j after
  unfolding outcome
  others-kept j other = by-operation op
    where
      by-operation : (o : Operation) → Apart table store j (outcome o id authority place mark offered table store)
      by-operation put_nothing = (refl, λ h. (refl, refl))
      by-operation (acts a) = way_apart a id authority place mark offered table store j other (way_of a id offered table store) refl

  pub sized : length after.table ≡ length table
  unfolding outcome
  sized = by-operation op
    where
      by-operation : (o : Operation) → length (outcome o id authority place mark offered table store).table ≡ length table
      by-operation put_nothing = refl
      by-operation (acts a) = way-sized a id authority place mark offered table store (way_of a id offered table store)

  -- Get of another id answers what it answered.
  pub get-of-another : (j : ℕ) (asking : Bool) → eqb j id ≡ false → in_order table store ≡ true →
      got j asking after.table after.store ≡ got j asking table store
  unfolding got
  get-of-another j asking other o =
      rw (keeps-order o, o, sized, (others-kept j other).0) (by_side (leb (length table) (slot_for j table)) refl)
    where
      by_side : (t : Bool) → leb (length table) (slot_for j table) ≡ t →
          cond t got'.absent (cond (eqb (get_or after.table (slot_for j table) vacant).state 1) (got'.typed (slot_for j table)) (got'.poisoned (mark_for asking (get_or after.table (slot_for j table) vacant).mark)))
          ≡ cond t got'.absent (cond (eqb (get_or table (slot_for j table) vacant).state 1) (got'.typed (slot_for j table)) (got'.poisoned (mark_for asking (get_or table (slot_for j table) vacant).mark)))
      by_side true q = refl
      by_side false q = rw ((others-kept j other).1 (leb-false (length table) (slot_for j table) q)).0

  -- Get after an accepted put or forward declaration of a type answers that type, where something changed.
  abbrev OffersType : Operation → Type 0
  OffersType put_nothing = ⊥
  OffersType (acts a) = Offers a

  pub get-finds-what-was-put : OffersType op → after.answer.refusal ≡ 0 → (after.answer.value ≡ 0 → ⊥) → Holds id offered after
  unfolding outcome
  get-finds-what-was-put = by-operation op
    where
      by-operation : (o : Operation) → let r = outcome o id authority place mark offered table store in
          OffersType o → r.answer.refusal ≡ 0 → (r.answer.value ≡ 0 → ⊥) → Holds id offered r
      by-operation put_nothing t e v = absurd t
      by-operation (acts a) t e v = way_finds a id authority place mark offered table store (way_of a id offered table store) refl t e v

  pub get-type-of-what-was-put : OffersType op → after.answer.refusal ≡ 0 → (after.answer.value ≡ 0 → ⊥) →
      type_of id after.table after.store ≡ offered
  get-type-of-what-was-put t r v = held id offered after (get-finds-what-was-put t r v)
