-- A Member's type is what get answers.
-- Assumes nothing.
use mathlib.Core.Path.{◌≡◌, refl}
use mathlib.Core.Bool.{Bool, true, false, cond, false≢true}
use mathlib.Core.List.{List, [], ◌∷◌}
use Prim.Native.Nat.{ℕ}
use lib.Dec.{leb}
use lib.ListN.{length, get_or, get_or-eq_default}
use borrow.Author.Tests.{leb-true}
use Rattle.type_layers.specs.Answer.{is_given}
use Rattle.type_layers.specs.Layers.{layers}
use Rattle.type_checks.specs.Check.{check_of}
use Rattle.symbol_columns.specs.declared.symbol.Symbol.{Symbol}
use Rattle.symbol_columns.specs.Record.{vacant, typed}
use Rattle.symbol_columns.specs.StoredWords.{slot_words, stored_words}
use Rattle.symbol_search.specs.Search.{slot_for}
use Rattle.symbol_order.specs.Order.{in_order}
use Rattle.symbol_get.specs.Got as got'
use Rattle.symbol_get.specs.Got.{Got}
use Rattle.symbol_get.specs.Get.{mark_for, got, type_in}
use Rattle.symbol_members.specs.Member as stored
use Rattle.symbol_members.specs.Member.{Stored}
use Rattle.symbol_members.specs.Members.{words_at, of_layers, member_words, members}
use Rattle.symbol_members.proofs.Storing.{stored-good}

-- a type's words have a layer
some-layer : (ws : List ℕ) → is_given (check_of ws) ≡ true → of_layers (layers ws) ≡ stored.typed (layers ws)
unfolding check_of layers
some-layer [] e = absurd (false≢true e)
some-layer (k ∷ []) e = absurd (false≢true e)
some-layer (k ∷ n ∷ []) e = absurd (false≢true e)
some-layer (k ∷ n ∷ m ∷ ws) e = refl

module _ (table : List Symbol) (store : List ℕ) where
  -- what get answers, as a member: the type where it is typed; else absent
  abbrev pub of_got : Got → Stored
  of_got got'.absent = stored.absent
  of_got (got'.typed k) = stored.typed (layers (type_in (got'.typed k) table store))
  of_got (got'.poisoned m) = stored.absent
  of_got (got'.refused n p) = stored.absent

  -- Of a table in order a member is typed where get answers a type, with the words that it answers, and absent where get
  -- answers absent or poisoned.
  pub member-is-got : (id : ℕ) (asking : Bool) → in_order table store ≡ true → members table store id ≡ of_got (got id asking table store)
  unfolding members member_words got layers
  member-is-got id asking o = rw o (by-slot (leb (length table) (slot_for id table)) refl)
    where
      s : Symbol
      s = get_or table (slot_for id table) vacant

      by_state : (f : Bool) → typed s ≡ f →
          of_layers (layers (cond f (stored_words s.layers (slot_words store (slot_for id table))) []))
          ≡ of_got (cond f (got'.typed (slot_for id table)) (got'.poisoned (mark_for asking s.mark)))
      by_state true e = some-layer (stored_words s.layers (slot_words store (slot_for id table))) (stored-good table store id o e)
      by_state false e = refl

      by-slot : (f : Bool) → leb (length table) (slot_for id table) ≡ f →
          of_layers (layers (words_at s (slot_words store (slot_for id table))))
          ≡ of_got (cond f got'.absent (cond (typed s) (got'.typed (slot_for id table)) (got'.poisoned (mark_for asking s.mark))))
      by-slot true e =
          let past = leb-true (length table) (slot_for id table) e in
          rw (get_or-eq_default table vacant past)
      by-slot false e = by_state (typed s) refl
