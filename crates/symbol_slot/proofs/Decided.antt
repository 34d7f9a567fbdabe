-- Which record an act is about, by what the code found.
-- Assumes nothing.
use mathlib.Core.Path.{◌≡◌, refl, sym, ap, subst, ◌∙◌}
use mathlib.Core.Bool.{Bool, true, false, cond, not, false≢true}
use mathlib.Core.List.{List}
use Prim.Native.Nat.{ℕ, ◌≤◌, ◌<◌}
use lib.Dec.{ltb}
use lib.ListN.{length, get_or}
use borrow.Author.Tests.{lt-ltb, le-ltb, ltb-true, ltb-false, not-true, not-false}
use Rattle.std.proofs.Common.{Some, None}
use Rattle.type_numbers.specs.Refusal.{number_of}
use Rattle.type_numbers.specs.declared.refusal.Refusal.TheVariants.{TableNotInOrder, TableFull}
use Rattle.type_layers.specs.Answer.{Answer, given, nothing, refused, IsUnplaced, of_result}
use Rattle.type_layers.specs.declared.answers.Refused.{Refused}
use Rattle.symbol_columns.specs.declared.symbol.Symbol.{Symbol}
use Rattle.symbol_columns.specs.Record.{vacant}
use Rattle.symbol_columns.specs.AsCoded.{read_from}
use Rattle.symbol_search.specs.Search.{slot_for, first_free, among}
use Rattle.symbol_search.specs.AsCoded.{slot_in, free_in}
use Rattle.symbol_columns.proofs.Reading.{length-read}
use Rattle.symbol_search.proofs.Searching.{some_among, none_among, slot_has}
use Rattle.symbol_order.specs.Order.{in_order}
use Rattle.symbol_order.proofs.Ordered.{Ordered, ordered, slot-there, free-there}
use Rattle.symbol_operations.specs.Act.{Act}
use Rattle.symbol_slot.specs.Way as way
use Rattle.symbol_slot.specs.Way.{Way}
use Rattle.symbol_slot.specs.Slot.{offered_check, place_of, unless, way_of}
use Rattle.std.specs.Prelude.{Result, Err}

-- the refusals of the offered type come first
pub offer-refused : (a : Act) (id : ℕ) (offered : List ℕ) (table : List Symbol) (w : List ℕ) (x : Result ℕ Refused) → of_result x ≡ offered_check a offered →
    (r : Refused) → x ≡ Err r → way.refused (number_of r.refusal) r.place ≡ way_of a id offered table w
unfolding way_of
offer-refused a id offered table w x e r h = rw (← e, h)

-- the record's place
module _ (ws w : List ℕ) (n id : ℕ) (o : Bool) (e : o ≡ in_order (read_from ws 0 n) w) where
  pub out_of_order : (x : Refused) → not o ≡ true → IsUnplaced TableNotInOrder x →
      way.refused (number_of x.refusal) x.place ≡ place_of id (read_from ws 0 n) w
  unfolding place_of
  out_of_order x f g = rw (g, ← e, not-true o f)

  module _ (f : not o ≡ false) where
    k-is : slot_in ws n id ≡ slot_for id (read_from ws 0 n)
    k-is = slot-there ws w n (sym e ∙ not-false o f) id (slot_in ws n id) refl

    pub found_there : (k : ℕ) → Some k ≡ among n (slot_in ws n id) → way.found k ≡ place_of id (read_from ws 0 n) w
    unfolding place_of
    found_there k q =
        let is = some_among n (slot_in ws n id) k q in
        rw (← e, not-false o f, ← k-is, length-read ws 0 n, lt-ltb (slot_in ws n id) n is.1, is.0)

    module _ (q : None ≡ among n (slot_in ws n id)) where
      j-is : free_in ws n ≡ first_free (read_from ws 0 n)
      j-is = free-there ws w n (sym e ∙ not-false o f) (free_in ws n) refl

      past : n ≤ slot_in ws n id
      past = none_among n (slot_in ws n id) q

      pub room_there : (j : ℕ) → Some j ≡ among n (free_in ws n) → way.free j ≡ place_of id (read_from ws 0 n) w
      unfolding place_of
      room_there j i =
          let is = some_among n (free_in ws n) j i in
          rw (← e, not-false o f, ← k-is, length-read ws 0 n, le-ltb (slot_in ws n id) n past, ← j-is, lt-ltb (free_in ws n) n is.1, is.0)

      pub none_free : (x : Refused) → None ≡ among n (free_in ws n) → IsUnplaced TableFull x →
          way.refused (number_of x.refusal) x.place ≡ place_of id (read_from ws 0 n) w
      unfolding place_of
      none_free x i g =
          rw (g, ← e, not-false o f, ← k-is, length-read ws 0 n, le-ltb (slot_in ws n id) n past, ← j-is, le-ltb (free_in ws n) n (none_among n (free_in ws n) i))

-- what is known of a slot that was chosen
abbrev is_found : Way → Bool
is_found (way.refused n p) = false
is_found (way.found k) = true
is_found (way.free k) = false

abbrev is_free : Way → Bool
is_free (way.refused n p) = false
is_free (way.found k) = false
is_free (way.free k) = true

abbrev slot_in-way : Way → ℕ
slot_in-way (way.refused n p) = 0
slot_in-way (way.found k) = k
slot_in-way (way.free k) = k

abbrev pub not_refused : Answer ℕ → Bool
not_refused (given n) = true
not_refused nothing = true
not_refused (refused n p) = false

abbrev chosen : Bool → Bool → Bool → ℕ → ℕ → Way
chosen o t u i j = cond o (cond t (way.found i) (cond u (way.free j) (way.refused 13 0))) (way.refused 12 0)

found-way : (o t u : Bool) (i j k : ℕ) → chosen o t u i j ≡ way.found k → (o ≡ true) × (t ≡ true) × (k ≡ i)
found-way false t u i j k e = absurd (false≢true (ap is_found e))
found-way true true u i j k e = (refl, refl, sym (ap slot_in-way e))
found-way true false true i j k e = absurd (false≢true (ap is_found e))
found-way true false false i j k e = absurd (false≢true (ap is_found e))

free-way : (o t u : Bool) (i j k : ℕ) → chosen o t u i j ≡ way.free k → (o ≡ true) × (t ≡ false) × (u ≡ true) × (k ≡ j)
free-way false t u i j k e = absurd (false≢true (ap is_free e))
free-way true true u i j k e = absurd (false≢true (ap is_free e))
free-way true false true i j k e = (refl, refl, refl, sym (ap slot_in-way e))
free-way true false false i j k e = absurd (false≢true (ap is_free e))

-- a way that is no refusal of the offered type is the table's
passed : (a : Answer ℕ) (w v : Way) (f : Way → Bool) → ((n p : ℕ) → f (way.refused n p) ≡ false) → f v ≡ true → unless a w ≡ v →
    (not_refused a ≡ true) × (w ≡ v)
passed (refused n p) w v f h g e = absurd (false≢true (sym (h n p) ∙ ap f e ∙ g))
passed (given n) w v f h g e = (refl, e)
passed nothing w v f h g e = (refl, e)

-- the table is in order, and the slot is in it
pub record Within (table : List Symbol) (store : List ℕ) (k : ℕ) : Type 0 where
  pub order : Ordered table store
  pub below : k < length table

module _ (a : Act) (id : ℕ) (offered : List ℕ) (table : List Symbol) (store : List ℕ) (k : ℕ) where
  module _ (e : way_of a id offered table store ≡ way.found k) where
    found_after : (not_refused (offered_check a offered) ≡ true) × (place_of id table store ≡ way.found k)
    unfolding way_of
    found_after = passed (offered_check a offered) (place_of id table store) (way.found k) is_found (λ n p. refl) refl e

    found-by : (in_order table store ≡ true) × (ltb (slot_for id table) (length table) ≡ true) × (k ≡ slot_for id table)
    unfolding place_of
    found-by =
        found-way (in_order table store) (ltb (slot_for id table) (length table)) (ltb (first_free table) (length table))
        (slot_for id table) (first_free table) k found_after.1

    pub found-checked : not_refused (offered_check a offered) ≡ true
    found-checked = found_after.0

    pub found-is : k ≡ slot_for id table
    found-is = found-by.2

    pub found_in : Within table store k
    found_in =
        record {
          order = ordered table store found-by.0;
          below = subst (λ (j : ℕ). j < length table) (sym found-is) (ltb-true (slot_for id table) (length table) found-by.1);
        }

    pub found-has : (get_or table k vacant).id ≡ id
    found-has =
        ap (λ (j : ℕ). (get_or table j vacant).id) found-is
        ∙ slot_has id table (subst (λ (j : ℕ). j < length table) found-is found_in.below)

  module _ (e : way_of a id offered table store ≡ way.free k) where
    new-after : (not_refused (offered_check a offered) ≡ true) × (place_of id table store ≡ way.free k)
    unfolding way_of
    new-after = passed (offered_check a offered) (place_of id table store) (way.free k) is_free (λ n p. refl) refl e

    new_by : (in_order table store ≡ true) × (ltb (slot_for id table) (length table) ≡ false) × (ltb (first_free table) (length table) ≡ true) × (k ≡ first_free table)
    unfolding place_of
    new_by =
        free-way (in_order table store) (ltb (slot_for id table) (length table)) (ltb (first_free table) (length table))
        (slot_for id table) (first_free table) k new-after.1

    pub new-checked : not_refused (offered_check a offered) ≡ true
    new-checked = new-after.0

    pub new_is : k ≡ first_free table
    new_is = new_by.3

    pub new-absent : length table ≤ slot_for id table
    new-absent = ltb-false (slot_for id table) (length table) new_by.1

    pub new_in : Within table store k
    new_in =
        record {
          order = ordered table store new_by.0;
          below = subst (λ (j : ℕ). j < length table) (sym new_is) (ltb-true (first_free table) (length table) new_by.2);
        }
