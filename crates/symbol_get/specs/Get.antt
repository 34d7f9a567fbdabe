-- Get: what a table has under a name.
use Rattle.std.specs.Prelude.{◌≡◌, Bool, true, cond, List, [], ℕ, leb, length, get_or}
use Rattle.type_numbers.specs.Refusal as refusal
use Rattle.type_numbers.specs.State as of-state
use Rattle.symbol_columns.specs.declared.symbol.Symbol.{Symbol}
use Rattle.symbol_columns.specs.Record.{vacant, typed}
use Rattle.symbol_columns.specs.StoredWords.{slot_words, stored_words}
use Rattle.symbol_search.specs.Search.{slot_for}
use Rattle.symbol_order.specs.Order.{in_order}
use Rattle.write_answer.specs.declared.answer.Answer.{Answer}
use Rattle.write_answer.specs.Flat.{accepted, not_accepted}
use Rattle.symbol_get.specs.Got as got'
use Rattle.symbol_get.specs.Got.{Got}

-- "(mark 0, plain poison, when the asking name isn't authoritative)"
abbrev pub mark_for : Bool → ℕ → ℕ
mark_for authority mark = cond authority mark 0

-- "Get answers absent, the type, or the poison mark". "12 table not in order"
unfoldable pub got : ℕ → Bool → List Symbol → List ℕ → Got
got id authority table store =
    cond (in_order table store)
    (cond (leb (length table) (slot_for id table)) got'.absent
    (cond (typed (get_or table (slot_for id table) vacant)) (got'.typed (slot_for id table))
    (got'.poisoned (mark_for authority (get_or table (slot_for id table) vacant).mark))))
    (got'.refused refusal.table_not_in_order 0)

-- 0 where it is absent; else the state of its record.
abbrev pub told : Got → Answer
told got'.absent = accepted 0
told (got'.typed k) = accepted of-state.typed
told (got'.poisoned m) = accepted of-state.poisoned
told (got'.refused n p) = not_accepted n p

-- Where it is typed, the slot; where it is poisoned, the mark; else what was there.
abbrev pub found_after : Got → ℕ → ℕ
found_after got'.absent before = before
found_after (got'.typed k) before = k
found_after (got'.poisoned m) before = m
found_after (got'.refused n p) before = before

-- What is handed out: the answer, and what stands behind the pointer, before and then.
abbrev pub Tells : Got → Answer → ℕ → ℕ → Type 0
Tells g r before after = (r ≡ told g) × (after ≡ found_after g before)

-- "symbol get return the part of the lent words that holds the .. stored type": no words where there is no type.
abbrev pub type_in : Got → List Symbol → List ℕ → List ℕ
type_in got'.absent table store = []
type_in (got'.typed k) table store = stored_words (get_or table k vacant).layers (slot_words store k)
type_in (got'.poisoned m) table store = []
type_in (got'.refused n p) table store = []

unfoldable pub type_of : ℕ → List Symbol → List ℕ → List ℕ
type_of id table store = type_in (got id true table store) table store
