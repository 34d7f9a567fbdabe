-- "Member from Struct or Word to the table's type": what a table has of a member. A member is found by its id alone.
use Rattle.std.specs.Prelude.{cond, List, [], ◌∷◌, ℕ, get_or}
use Rattle.type_layers.specs.Layers.{Layer, layers}
use Rattle.symbol_columns.specs.declared.symbol.Symbol.{Symbol}
use Rattle.symbol_columns.specs.Record.{vacant, typed}
use Rattle.symbol_columns.specs.StoredWords.{slot_words, stored_words}
use Rattle.symbol_search.specs.Search.{slot_for}
use Rattle.symbol_members.specs.Member as stored
use Rattle.symbol_members.specs.Member.{Stored}

-- The words of the record's type, which stand first in its slot; a poisoned record has none.
abbrev pub words_at : Symbol → List ℕ → List ℕ
words_at s ws = cond (typed s) (stored_words s.layers ws) []

-- The words of the type that is stored under an id; none where it is absent or poisoned.
unfoldable pub member_words : List Symbol → List ℕ → ℕ → List ℕ
member_words table store id = words_at (get_or table (slot_for id table) vacant) (slot_words store (slot_for id table))

abbrev pub of_layers : List Layer → Stored
of_layers [] = stored.absent
of_layers (x ∷ t) = stored.typed (x ∷ t)

unfoldable pub members : List Symbol → List ℕ → ℕ → Stored
members table store id = of_layers (layers (member_words table store id))
