-- "An update changes the lent symbol itself, by the first line that applies": what that line does.
use Rattle.std.specs.Prelude.{Bool, List, ℕ, ◌/◌, eqb, length}
use Rattle.type_numbers.specs.Effect as effect
use Rattle.type_numbers.specs.Refusal as refusal
use Rattle.type_numbers.specs.State as of-state
use Rattle.type_layers.specs.Layers.{layers}
use Rattle.write_words.specs.Written.{written}
use Rattle.symbol_columns.specs.declared.symbol.Symbol.{Symbol}
use Rattle.symbol_columns.specs.StoredWords.{stored_words}
use Rattle.write_answer.specs.declared.answer.Answer.{Answer}
use Rattle.write_answer.specs.Flat.{accepted, not_accepted}
use Rattle.symbol_update_rule.specs.Rule.{line_of}
use Rattle.symbol_update_rule.specs.Line as line
use Rattle.symbol_update_rule.specs.Line.{Line}
use Rattle.symbol_update.specs.Updated.{Updated}

-- What each line answers. "Every refusal returns its number and a place (0 unless named)".
abbrev pub answer_by : Line → Answer
answer_by line.poisoned = accepted effect.kept
answer_by line.ill_formed = not_accepted refusal.ill_formed 0
answer_by line.kept = accepted effect.kept
answer_by line.type_replaced = accepted effect.type_replaced
answer_by line.both_replaced = accepted effect.both_replaced
answer_by line.conflicting = not_accepted refusal.conflict 0

-- A record of a type that was written, under an identifier: "writing a type sets the mark to 0".
abbrev pub typed : ℕ → Bool → ℕ → List ℕ → Symbol
typed id authority place ws =
    record { id = id; authority = authority; place = place; state = of-state.typed; layers = length ws / 3; mark = 0 }

abbrev pub record_by : Line → Symbol → ℕ → Bool → ℕ → List ℕ → Symbol
record_by line.poisoned s id authority place offered = s
record_by line.ill_formed s id authority place offered = s
record_by line.kept s id authority place offered = s
record_by line.type_replaced s id authority place offered = typed s.id s.authority s.place offered
record_by line.both_replaced s id authority place offered = typed id authority place offered
record_by line.conflicting s id authority place offered = s

-- "Writing a type touches that part's first words only."
abbrev pub words_by : Line → List ℕ → List ℕ → List ℕ
words_by line.poisoned offered ws = ws
words_by line.ill_formed offered ws = ws
words_by line.kept offered ws = ws
words_by line.type_replaced offered ws = written offered ws
words_by line.both_replaced offered ws = written offered ws
words_by line.conflicting offered ws = ws

-- The line that applies to a record, its words, the new identifier's authority and the offered words. "2 poisoned"
abbrev pub line_at : Symbol → List ℕ → Bool → List ℕ → Line
line_at s ws authority offered =
    line_of (eqb s.state of-state.poisoned) s.authority authority (layers (stored_words s.layers ws)) (layers offered)

unfoldable pub updated : Symbol → List ℕ → ℕ → Bool → ℕ → List ℕ → Updated
updated s ws id authority place offered =
    record {
      symbol = record_by (line_at s ws authority offered) s id authority place offered;
      answer = answer_by (line_at s ws authority offered);
    }

unfoldable pub words_after : Symbol → List ℕ → Bool → List ℕ → List ℕ
words_after s ws authority offered = words_by (line_at s ws authority offered) offered ws
