-- What a table has under a name, by what the code found.
-- Assumes nothing.
use mathlib.Core.Path.{◌≡◌, refl, sym, ap, subst, ◌∙◌}
use mathlib.Core.Bool.{Bool, true, false, cond, not, false≢true}
use mathlib.Core.List.{List}
use Prim.Native.Nat.{ℕ, ◌≤◌, ◌<◌}
use lib.Dec.{eqb, leb}
use lib.ListN.{length, get_or, take}
use borrow.Author.Tests.{lt-leb, le-leb, leb-false, eq-eqb, ne_eqb, not-true, not-false}
use Rattle.symbol_columns.specs.declared.symbol.Symbol.{Symbol}
use Rattle.symbol_columns.specs.Record.{vacant}
use Rattle.symbol_columns.specs.AsCoded.{read_from, row_under}
use Rattle.symbol_columns.specs.StoredWords.{slot_words, stored_words}
use Rattle.symbol_search.specs.Search.{slot_for, among}
use Rattle.symbol_search.specs.AsCoded.{slot_in}
use Rattle.symbol_order.specs.Order.{in_order}
use Rattle.symbol_columns.proofs.Reading.{length-read, row-found}
use Rattle.symbol_search.proofs.Searching.{some_among, none_among, slot_has}
use Rattle.symbol_order.proofs.Ordered.{ordered, few-rows, slot-there}
use Rattle.std.proofs.Common.{Some, None}
use Rattle.type_numbers.specs.declared.refusal.Refusal.TheVariants.{TableNotInOrder}
use Rattle.type_numbers.specs.Refusal.{number_of}
use Rattle.type_layers.specs.declared.answers.Refused.{Refused}
use Rattle.type_layers.specs.Answer.{IsUnplaced}
use Rattle.symbol_get.specs.Get.{mark_for, got, type_in, type_of}
use Rattle.symbol_get.specs.Got as got'
use Rattle.symbol_get.specs.Got.{Got}
use Rattle.std.specs.Prelude.{Result, Ok, Err}
use Rattle.symbol_get.specs.AsCoded.{of_got}
use Rattle.symbol_get.specs.declared.get.Found as coded
use Rattle.symbol_get.specs.declared.get.Found.TheVariants as code

module _ (ws w : List ℕ) (n id : ℕ) (authority o : Bool) (e : o ≡ in_order (read_from ws 0 n) w) where
  pub get_refused : (x : Refused) → not o ≡ true → IsUnplaced TableNotInOrder x → got'.refused (number_of x.refusal) x.place ≡ got id authority (read_from ws 0 n) w
  unfolding got
  get_refused x f g = rw (g, ← e, not-true o f)

  module _ (f : not o ≡ false) where
    is : (k : ℕ) → k ≡ slot_in ws n id → k ≡ slot_for id (read_from ws 0 n)
    is k q = slot-there ws w n (sym e ∙ not-false o f) id k q

    pub get_absent : None ≡ among n (slot_in ws n id) → got'.absent ≡ got id authority (read_from ws 0 n) w
    unfolding got
    get_absent q =
        let past : n ≤ slot_in ws n id = none_among n (slot_in ws n id) q in
        rw (← e, not-false o f, ← is (slot_in ws n id) refl, length-read ws 0 n, le-leb n (slot_in ws n id) past)

    module _ (k : ℕ) (q : Some k ≡ among n (slot_in ws n id)) (s : Symbol) (r : s ≡ row_under ws k id) where
      at : k ≡ slot_for id (read_from ws 0 n)
      at = is k (some_among n (slot_in ws n id) k q).0

      below : k < n
      below = subst (λ (j : ℕ). j < n) (sym (some_among n (slot_in ws n id) k q).0) (some_among n (slot_in ws n id) k q).1

      there : s ≡ get_or (read_from ws 0 n) k vacant
      there =
          let within : slot_for id (read_from ws 0 n) < length (read_from ws 0 n) = rw (← at, length-read ws 0 n) below in
          row-found ws n id k s (few-rows ws w n (sym e ∙ not-false o f)) below (ap (λ (j : ℕ). (get_or (read_from ws 0 n) j vacant).id) at ∙ slot_has id (read_from ws 0 n) within) r

      pub get_typed : s.state ≡ 1 → got'.typed k ≡ got id authority (read_from ws 0 n) w
      unfolding got
      get_typed t = rw (← e, not-false o f, ← at, length-read ws 0 n, lt-leb n k below, ← there, eq-eqb s.state 1 t)

      module _ (t : s.state ≡ 1 → ⊥) where
        pub get_poisoned : got'.poisoned (mark_for authority s.mark) ≡ got id authority (read_from ws 0 n) w
        unfolding got
        get_poisoned = rw (← e, not-false o f, ← at, length-read ws 0 n, lt-leb n k below, ← there, ne_eqb s.state 1 t)

        pub get_marked : authority ≡ true → got'.poisoned s.mark ≡ got id authority (read_from ws 0 n) w
        get_marked a = ap (λ (b : Bool). got'.poisoned (cond b s.mark 0)) (sym a) ∙ get_poisoned

        pub get_plain : authority ≡ false → got'.poisoned 0 ≡ got id authority (read_from ws 0 n) w
        get_plain a = ap (λ (b : Bool). got'.poisoned (cond b s.mark 0)) (sym a) ∙ get_poisoned

-- the type's words
abbrev is_typed : Got → Bool
is_typed got'.absent = false
is_typed (got'.typed k) = true
is_typed (got'.poisoned m) = false
is_typed (got'.refused n p) = false

abbrev slot_in-got : Got → ℕ
slot_in-got got'.absent = 0
slot_in-got (got'.typed k) = k
slot_in-got (got'.poisoned m) = 0
slot_in-got (got'.refused n p) = 0

typed-parts : (o t u : Bool) (i m k : ℕ) → cond o (cond t got'.absent (cond u (got'.typed i) (got'.poisoned m))) (got'.refused 12 0) ≡ got'.typed k →
    (o ≡ true) × (t ≡ false) × (k ≡ i)
typed-parts false t u i m k e = absurd (false≢true (ap is_typed e))
typed-parts true true u i m k e = absurd (false≢true (ap is_typed e))
typed-parts true false true i m k e = (refl, refl, sym (ap slot_in-got e))
typed-parts true false false i m k e = absurd (false≢true (ap is_typed e))

pub typed-is : (id : ℕ) (asking : Bool) (table : List Symbol) (store : List ℕ) (k : ℕ) → got id asking table store ≡ got'.typed k →
    (in_order table store ≡ true) × (k < length table) × (k ≡ slot_for id table)
unfolding got
typed-is id asking table store k e =
    let s = get_or table (slot_for id table) vacant in
    let f = typed-parts (in_order table store) (leb (length table) (slot_for id table)) (eqb s.state 1) (slot_for id table) (mark_for asking s.mark) k e in
    (f.0, subst (λ (j : ℕ). j < length table) (sym f.2) (leb-false (length table) (slot_for id table) f.1), f.2)

-- poison has no type
pub type-poisoned : (flat : List ℕ) (n id : ℕ) (store : List ℕ) (g : Result coded.Found Refused) → of_got g ≡ got id true (read_from flat 0 n) store →
    (m : ℕ) → g ≡ Ok (code.Poisoned m) → take 0 store ≡ type_of id (read_from flat 0 n) store
unfolding type_of
type-poisoned flat n id store g e m q = rw (← e, q)

-- nor has what is no type
pub no_type : (flat : List ℕ) (n id : ℕ) (store : List ℕ) (g : Result coded.Found Refused) → of_got g ≡ got id true (read_from flat 0 n) store →
    ((k : ℕ) → g ≡ Ok (code.Typed k) → ⊥) → take 0 store ≡ type_of id (read_from flat 0 n) store
unfolding type_of
no_type flat n id store (Ok code.Absent) e f = rw (← e)
no_type flat n id store (Ok (code.Typed k)) e f = absurd (f k refl)
no_type flat n id store (Ok (code.Poisoned m)) e f = type-poisoned flat n id store (Ok (code.Poisoned m)) e m refl
no_type flat n id store (Err x) e f = rw (← e)

pub type_there : (flat : List ℕ) (n id : ℕ) (store : List ℕ) (k : ℕ) (s : Symbol) (slot r : List ℕ) →
    got'.typed k ≡ got id true (read_from flat 0 n) store → s ≡ row_under flat k id → slot ≡ slot_words store k → r ≡ stored_words s.layers slot →
    r ≡ type_of id (read_from flat 0 n) store
unfolding type_of
type_there flat n id store k s slot r q row part words =
    let table = read_from flat 0 n in
    let f = typed-is id true table store k (sym q) in
    let m = length-read flat 0 n in
    let few = subst (λ (j : ℕ). j ≤ 128) m (ordered table store f.0).few in
    let below = subst (λ (j : ℕ). k < j) m f.1 in
    let has = ap (λ (j : ℕ). (get_or table j vacant).id) f.2 ∙ slot_has id table (subst (λ (j : ℕ). j < length table) f.2 f.1) in
    let is = row-found flat n id k s few below has row in
    words ∙ (λ t. stored_words (is t).layers (part t)) ∙ ap (λ (x : Got). type_in x table store) q
