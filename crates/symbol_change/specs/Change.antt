-- Put, poison and forward declaration: what each does to a table and its store.
use Rattle.std.specs.Prelude.{◌≡◌, Bool, cond, List, ◌++◌, ℕ, ◌*◌, take, drop, get_or, set}
use Rattle.type_numbers.specs.Limit as limit
use Rattle.type_numbers.specs.Effect as effect
use Rattle.type_numbers.specs.Refusal as refusal
use Rattle.symbol_columns.specs.declared.symbol.Symbol.{Symbol}
use Rattle.symbol_columns.specs.Record.{vacant}
use Rattle.symbol_columns.specs.StoredWords.{slot_words}
use Rattle.symbol_order.specs.Order.{in_order}
use Rattle.write_answer.specs.declared.answer.Answer.{Answer}
use Rattle.write_answer.specs.Flat.{accepted, not_accepted}
use Rattle.symbol_operations.specs.Act.{Act}
use Rattle.symbol_operations.specs.Operation.{Operation, put_nothing, acts}
use Rattle.symbol_slot.specs.Way as way
use Rattle.symbol_slot.specs.Way.{Way}
use Rattle.symbol_slot.specs.Slot.{way_of}
use Rattle.symbol_record.specs.Deed.{Deed, deed, overwrites, filled, filled_words}

-- What is done to the first free record. "Put of poison: .. or inserts. Put of a type under a new id inserts it, well
-- formed or not. Forward declaration overwrites or inserts."
abbrev pub inserts : Act → List ℕ → ℕ → Bool → ℕ → ℕ → List ℕ → Deed
inserts a ws id authority place mark offered =
    deed (filled a id authority place mark offered) (filled_words a offered ws) (accepted effect.inserted)

-- An operation's outcome: the answer, and what the table and the store hold then.
pub record Outcome : Type 0 where
  pub answer : Answer
  pub table : List Symbol
  pub store : List ℕ

-- What is handed out for an outcome: the answer, and the table and the store as they stand then.
abbrev pub Becomes : Outcome → Answer → List Symbol → List ℕ → Type 0
Becomes o r table store = (r ≡ o.answer) × (table ≡ o.table) × (store ≡ o.store)

-- "Slot k's type stands in a lent store of words from 48k on.": the store with other words in slot k.
abbrev pub with_slot : List ℕ → ℕ → List ℕ → List ℕ
with_slot store k ws = take (k * limit.slot_words) store ++ (ws ++ drop limit.slot_words (drop (k * limit.slot_words) store))

abbrev pub at_slot : ℕ → Deed → List Symbol → List ℕ → Outcome
at_slot k d table store =
    record { answer = d.answer; table = set table k d.symbol; store = with_slot store k d.words }

-- "Every refusal returns its number and a place (0 unless named) and changes nothing lent."
abbrev pub outcome_by : Way → Act → ℕ → Bool → ℕ → ℕ → List ℕ → List Symbol → List ℕ → Outcome
outcome_by (way.refused n p) a id authority place mark offered table store =
    record { answer = not_accepted n p; table = table; store = store }
outcome_by (way.found k) a id authority place mark offered table store =
    at_slot k (overwrites a (get_or table k vacant) (slot_words store k) id authority place mark offered) table store
outcome_by (way.free k) a id authority place mark offered table store =
    at_slot k (inserts a (slot_words store k) id authority place mark offered) table store

-- "Put with nothing: accepted, unchanged." "12 table not in order"
abbrev pub nothing_put : List Symbol → List ℕ → Answer
nothing_put table store = cond (in_order table store) (accepted effect.kept) (not_accepted refusal.table_not_in_order 0)

unfoldable pub outcome : Operation → ℕ → Bool → ℕ → ℕ → List ℕ → List Symbol → List ℕ → Outcome
outcome put_nothing id authority place mark offered table store =
    record { answer = nothing_put table store; table = table; store = store }
outcome (acts a) id authority place mark offered table store =
    outcome_by (way_of a id offered table store) a id authority place mark offered table store
