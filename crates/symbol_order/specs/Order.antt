-- When a table of records is in order with its store.
use Rattle.std.specs.Prelude.{Bool, true, false, cond, not, ◌&&◌, ◌||◌, List, [], ◌∷◌, ℕ, ◌*◌, eqb, leb, length, take, drop}
use Rattle.type_numbers.specs.Limit as limit
use Rattle.type_numbers.specs.State as of-state
use Rattle.type_layers.specs.Answer.{is_given}
use Rattle.type_checks.specs.Check.{check_of}
use Rattle.symbol_columns.specs.declared.symbol.Symbol.{Symbol}
use Rattle.symbol_columns.specs.Record.{free}
use Rattle.symbol_columns.specs.StoredWords.{stored_words}

-- "states are 0 to 2"
unfoldable pub known_states : List Symbol → Bool
known_states [] = true
known_states (s ∷ table) = leb s.state of-state.poisoned && known_states table

-- "taken records precede free ones"
unfoldable pub all_free : List Symbol → Bool
all_free [] = true
all_free (s ∷ table) = free s && all_free table

unfoldable pub taken_first : List Symbol → Bool
taken_first [] = true
taken_first (s ∷ table) = cond (free s) (all_free table) (taken_first table)

-- "no taken id repeats"
unfoldable pub taken : List Symbol → List Symbol
taken [] = []
taken (s ∷ table) = cond (free s) (taken table) (s ∷ taken table)

unfoldable pub has_id : ℕ → List Symbol → Bool
has_id id [] = false
has_id id (s ∷ table) = eqb s.id id || has_id id table

unfoldable pub repeats : List Symbol → Bool
repeats [] = false
repeats (s ∷ table) = has_id s.id table || repeats table

-- "each typed record's words pass checks 1-3"
unfoldable pub passes : ℕ → ℕ → List ℕ → Bool
passes state layers words = cond (eqb state of-state.typed) (is_given (check_of (stored_words layers words))) true

-- "Slot k's type stands in a lent store of words from 48k on."
unfoldable pub all_pass : List Symbol → List ℕ → Bool
all_pass [] store = true
all_pass (s ∷ table) store = passes s.state s.layers (take limit.slot_words store) && all_pass table (drop limit.slot_words store)

-- "A table is in order when it has at most 128 records, states are 0 to 2, taken records precede free ones, no taken id
-- repeats, each typed record's words pass checks 1-3, and the store has exactly 48 words for each record."
unfoldable pub in_order : List Symbol → List ℕ → Bool
in_order table store =
    leb (length table) limit.records
    && known_states table
    && taken_first table
    && not (repeats (taken table))
    && all_pass table store
    && eqb (length store) (length table * limit.slot_words)
