-- No rule, but what contracts of the code need: what is done to a table, as the code hands it back.
use Rattle.std.specs.Prelude.{◌≡◌, Bool, cond, not, ◌&&◌, List, ℕ, eqb, get_or, Option, Some, None, Result, Ok, Err}
use Rattle.type_numbers.specs.Effect as effect
use Rattle.type_numbers.specs.Refusal.{number_of}
use Rattle.type_layers.specs.declared.answers.Refused.{Refused}
use Rattle.symbol_columns.specs.declared.symbol.Symbol.{Symbol}
use Rattle.symbol_columns.specs.Record.{vacant}
use Rattle.symbol_columns.specs.StoredWords.{slot_words}
use Rattle.write_answer.specs.declared.answer.Answer.{Answer}
use Rattle.write_answer.specs.Flat.{accepted, not_accepted}
use Rattle.symbol_operations.specs.Act.{Act}
use Rattle.symbol_operations.specs.Operation.{Operation, put_nothing, acts}
use Rattle.symbol_slot.specs.Way as way
use Rattle.symbol_slot.specs.Way.{Way}
use Rattle.symbol_slot.specs.Slot.{way_of}
use Rattle.symbol_record.specs.Deed.{overwrites}
use Rattle.symbol_change.specs.declared.change.Change.{Change}
use Rattle.symbol_change.specs.Change.{inserts, nothing_put, outcome}

-- An outcome as the code's core hands it back: the answer, and the record that is stored, if any, with its slot.
pub record Chosen : Type 0 where
  pub answer : Answer
  pub stored : Option (ℕ × Symbol)

abbrev pub nowhere : Answer → Chosen
nowhere a = record { answer = a; stored = None }

abbrev pub in_slot : ℕ → Symbol → Answer → Chosen
in_slot k s a = record { answer = a; stored = Some (k, s) }

-- What it is that the code hands back.
abbrev pub of_change : Result Change Refused → Chosen
of_change (Ok c) = record { answer = accepted (effect.number_of c.effect); stored = c.stored }
of_change (Err e) = nowhere (not_accepted (number_of e.refusal) e.place)

-- An answer of a record that was found tells whether it changed: not by a refusal, and not with value 0.
abbrev pub is_changed : Answer → Bool
is_changed a = eqb a.refusal 0 && not (eqb a.value effect.kept)

-- Where nothing changes nothing is stored.
abbrev pub if_changed : ℕ → Symbol → Answer → Chosen
if_changed k s a = cond (is_changed a) (in_slot k s a) (nowhere a)

abbrev pub change_by : Way → Act → ℕ → Bool → ℕ → ℕ → List ℕ → List Symbol → List ℕ → Chosen
change_by (way.refused n p) a id authority place mark offered table store = nowhere (not_accepted n p)
change_by (way.found k) a id authority place mark offered table store =
    if_changed k (overwrites a (get_or table k vacant) (slot_words store k) id authority place mark offered).symbol
    (overwrites a (get_or table k vacant) (slot_words store k) id authority place mark offered).answer
change_by (way.free k) a id authority place mark offered table store =
    in_slot k (inserts a (slot_words store k) id authority place mark offered).symbol
    (inserts a (slot_words store k) id authority place mark offered).answer

unfoldable pub change_of : Operation → ℕ → Bool → ℕ → ℕ → List ℕ → List Symbol → List ℕ → Chosen
change_of put_nothing id authority place mark offered table store = nowhere (nothing_put table store)
change_of (acts a) id authority place mark offered table store =
    change_by (way_of a id offered table store) a id authority place mark offered table store

unfoldable pub store_of : Operation → ℕ → Bool → ℕ → ℕ → List ℕ → List Symbol → List ℕ → List ℕ
store_of op id authority place mark offered table store = (outcome op id authority place mark offered table store).store

-- What the code's core hands back: the change, and the store as it stands then.
abbrev pub Chooses : Operation → ℕ → Bool → ℕ → ℕ → List ℕ → List Symbol → List ℕ → Result Change Refused → List ℕ → Type 0
Chooses op id authority place mark offered table store r store' =
    (of_change r ≡ change_of op id authority place mark offered table store) × (store' ≡ store_of op id authority place mark offered table store)
