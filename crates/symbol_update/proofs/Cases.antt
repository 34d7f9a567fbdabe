-- What is shown of each outcome that the lines have is shown of the update.
-- Assumes nothing.
use mathlib.Core.Bool.{Bool}
use mathlib.Core.List.{List}
use Prim.Native.Nat.{ℕ}
use Rattle.write_words.specs.Written.{written}
use Rattle.symbol_columns.specs.declared.symbol.Symbol.{Symbol}
use Rattle.write_answer.specs.declared.answer.Answer.{Answer}
use Rattle.write_answer.specs.Flat.{accepted, not_accepted}
use Rattle.symbol_update_rule.specs.Line as line
use Rattle.symbol_update_rule.specs.Line.{Line}
use Rattle.symbol_update.specs.Update.{line_at, answer_by, typed, record_by, words_by, updated, words_after}

module _ (s : Symbol) (ws : List ℕ) (id : ℕ) (authority : Bool) (place : ℕ) (offered : List ℕ) (P : Symbol → List ℕ → Answer → Type 0)
    (kept : P s ws (accepted 0)) (ill : P s ws (not_accepted 4 0))
    (one : P (typed s.id s.authority s.place offered) (written offered ws) (accepted 1))
    (both : P (typed id authority place offered) (written offered ws) (accepted 2)) (conflict : P s ws (not_accepted 7 0)) where
  by-line : (l : Line) → P (record_by l s id authority place offered) (words_by l offered ws) (answer_by l)
  by-line line.poisoned = kept
  by-line line.ill_formed = ill
  by-line line.kept = kept
  by-line line.type_replaced = one
  by-line line.both_replaced = both
  by-line line.conflicting = conflict

  pub by_lines : P (updated s ws id authority place offered).symbol (words_after s ws authority offered) (updated s ws id authority place offered).answer
  unfolding updated words_after
  by_lines = by-line (line_at s ws authority offered)
