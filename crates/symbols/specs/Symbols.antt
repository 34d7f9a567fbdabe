-- Symbols, on one page, in the order of the rules. Each sentence stands over the definition that says it; what that is made
-- of stands in the crate below that its import names.
use Rattle.std.specs.Prelude.{◌≡◌, Bool, true, List, [], ℕ}
use Rattle.write_answer.specs.declared.answer.Answer.{Answer}
use Rattle.symbol_columns.specs.declared.symbol.Symbol.{Symbol}
use Rattle.symbol_order.specs.Order.{in_order}
use Rattle.symbol_update_rule.specs.Line.{Line}
use Rattle.symbol_update.specs.Update.{typed, line_at}
use Rattle.symbol_update_lone.specs.Lone.{LoneBecomes}
use Rattle.symbol_operations.specs.Act as act
use Rattle.symbol_operations.specs.Operation.{Operation, acts}
use Rattle.symbol_operations.specs.Operations as operations
use Rattle.symbol_operations.specs.declared.operation.Offer.{Offer}
use Rattle.symbol_operations.specs.declared.operation.Declared.{Declared}
use Rattle.symbol_record.specs.Deed.{poisoned}
use Rattle.symbol_change.specs.Change.{Outcome, outcome}
use Rattle.symbol_get.specs.Got.{Got}
use Rattle.symbol_get.specs.Get.{got, type_of}

-- "A record holds id, authority, place, state (0 free, 1 typed, 2 poisoned), layer count and poison mark. The symbol table
-- is a lent run of such records. Slot k's type stands in a lent store of words from 48k on."
abbrev pub Table : Type 0
Table = List Symbol

abbrev pub Store : Type 0
Store = List ℕ

-- "A table is in order when it has at most 128 records, states are 0 to 2, taken records precede free ones, no taken id
-- repeats, each typed record's words pass checks 1-3, and the store has exactly 48 words for each record."
abbrev pub InOrder : Table → Store → Type 0
InOrder table store = in_order table store ≡ true

-- "Poisoning sets the layer count to 0; writing a type sets the mark to 0."
abbrev pub poisoned_record : ℕ → Bool → ℕ → ℕ → Symbol
poisoned_record id authority place mark = poisoned id authority place mark

abbrev pub typed_record : ℕ → Bool → ℕ → List ℕ → Symbol
typed_record id authority place words = typed id authority place words

-- "An update changes the lent symbol itself, by the first line that applies: poisoned: accepted, nothing changes. Offered
-- type, then stored type, ill formed: 4. Identical, or stored is a concretization of offered: accepted, nothing changes.
-- Symbol authoritative and offered is declared as stored: type replaced, identifier kept. New identifier authoritative and
-- offered is a concretization of or coerces into stored: both replaced. Else 7." Of a record, its words, the new name's
-- authority and the offered words: which line.
abbrev pub update_line : Symbol → List ℕ → Bool → List ℕ → Line
update_line symbol words authority offered = line_at symbol words authority offered

-- What is done to a table under a name: id, authority, place, the mark of poison, the words of a type.
abbrev pub change : Operation → ℕ → Bool → ℕ → ℕ → List ℕ → Table → Store → Outcome
change operation id authority place mark offered table store = outcome operation id authority place mark offered table store

-- "Put with nothing: accepted, unchanged. Put of poison: poisons, identifier kept, or inserts. Put of a type under a new id
-- inserts it, well formed or not."
abbrev pub put : Offer → ℕ → Bool → ℕ → ℕ → List ℕ → Table → Store → Outcome
put offer id authority place mark offered table store = change (operations.put offer) id authority place mark offered table store

abbrev pub poison : ℕ → Bool → ℕ → ℕ → Table → Store → Outcome
poison id authority place mark table store = change (acts act.put_poison) id authority place mark [] table store

-- "Forward declaration overwrites or inserts."
abbrev pub forward_declare : Declared → ℕ → Bool → ℕ → ℕ → List ℕ → Table → Store → Outcome
forward_declare declared id authority place mark offered table store =
    change (operations.forward declared) id authority place mark offered table store

-- "Get answers absent, the type, or the poison mark (mark 0, plain poison, when the asking name isn't authoritative)."
abbrev pub get : ℕ → Bool → Table → Store → Got
get id authority table store = got id authority table store

-- "element, pointee, viewee and symbol get return the part of the lent words that holds the inner or stored type"
abbrev pub get_type : ℕ → Table → Store → List ℕ
get_type id table store = type_of id table store

-- "A lone lent symbol with its words is judged as a table of one, and gets 12 if free too."
abbrev pub UpdatesAlone : Symbol → List ℕ → ℕ → Bool → ℕ → List ℕ → Answer → Symbol → List ℕ → Type 0
UpdatesAlone symbol words id authority place offered r symbol' words' = LoneBecomes symbol words id authority place offered r symbol' words'
