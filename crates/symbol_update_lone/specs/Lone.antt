-- "A lone lent symbol with its words is judged as a table of one, and gets 12 if free too."
use Rattle.std.specs.Prelude.{◌≡◌, Bool, cond, not, ◌&&◌, List, [], ◌∷◌, ℕ}
use Rattle.type_numbers.specs.Refusal as refusal
use Rattle.type_layers.specs.Answer as paper
use Rattle.type_layers.specs.Answer.{given, nothing, refused, next}
use Rattle.type_checks.specs.Check.{check_of}
use Rattle.symbol_columns.specs.Record.{free}
use Rattle.symbol_order.specs.Order.{in_order}
use Rattle.write_answer.specs.declared.answer.Answer.{Answer}
use Rattle.symbol_columns.specs.declared.symbol.Symbol.{Symbol}
use Rattle.write_answer.specs.Flat.{not_accepted}
use Rattle.symbol_update.specs.Update.{updated, words_after}
use Rattle.symbol_update.specs.Updated.{Updated}

unfoldable pub lone_in_order : Symbol → List ℕ → Bool
lone_in_order s ws = in_order (s ∷ []) ws && not (free s)

-- "12 table not in order", after the checks 1 to 3 of what is offered.
unfoldable pub lone_check : Symbol → List ℕ → List ℕ → paper.Answer ℕ
lone_check s ws offered = next (check_of offered) (cond (lone_in_order s ws) (given 0) (refused refusal.table_not_in_order 0))

abbrev pub unless_refused : paper.Answer ℕ → Symbol → Updated → Updated
unless_refused (given n) s u = u
unless_refused nothing s u = u
unless_refused (refused n p) s u = record { symbol = s; answer = not_accepted n p }

unfoldable pub lone_updated : Symbol → List ℕ → ℕ → Bool → ℕ → List ℕ → Updated
lone_updated s ws id authority place offered =
    unless_refused (lone_check s ws offered) s (updated s ws id authority place offered)

abbrev pub kept_where_refused : paper.Answer ℕ → List ℕ → List ℕ → List ℕ
kept_where_refused (given n) ws after = after
kept_where_refused nothing ws after = after
kept_where_refused (refused n p) ws after = ws

unfoldable pub lone_words_after : Symbol → List ℕ → Bool → List ℕ → List ℕ
lone_words_after s ws authority offered = kept_where_refused (lone_check s ws offered) ws (words_after s ws authority offered)

-- What is handed out for the update of a lone symbol: the answer, and the symbol and its words as they stand then.
abbrev pub LoneBecomes : Symbol → List ℕ → ℕ → Bool → ℕ → List ℕ → Answer → Symbol → List ℕ → Type 0
LoneBecomes s ws id authority place offered r s' ws' =
    (r ≡ (lone_updated s ws id authority place offered).answer)
    × (s' ≡ (lone_updated s ws id authority place offered).symbol)
    × (ws' ≡ lone_words_after s ws authority offered)
