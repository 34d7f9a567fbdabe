-- What follows from the rule of the update alone.
-- Assumes nothing.
use mathlib.Core.Path.{◌≡◌, refl}
use mathlib.Core.Bool.{Bool, true, ◌&&◌, ◌||◌}
use mathlib.Core.List.{List}
use Prim.Native.Nat.{ℕ, ◌*◌, ◌/◌, ◌%◌, ◌≤◌}
use native.Mathlib.Omega.{arith}
use lib.Dec.{eqb}
use lib.ListN.{length}
use lib.Seq.{take-append_seam}
use borrow.Author.Tests.{eqb-true, le-ltb}
use Rattle.type_layers.specs.Layers.{Layer, layers}
use Rattle.type_layers.proofs.Decide.{both}
use Rattle.type_wellformed.specs.WellFormed.{well_formed}
use Rattle.relation_equals.specs.Equals.{identical}
use Rattle.relation_declared.specs.Declared.{concretization}
use Rattle.relation_equals.proofs.Theorems.{identical-reflexive}
use Rattle.write_words.specs.Written.{written}
use Rattle.write_words.proofs.Writing.{fits, length-written}
use Rattle.symbol_columns.specs.declared.symbol.Symbol.{Symbol}
use Rattle.symbol_columns.specs.StoredWords.{stored_words}
use Rattle.write_answer.specs.Flat.{accepted}
use Rattle.symbol_update_rule.specs.Rule.{line_of}
use Rattle.symbol_update_rule.proofs.Known.{Knows, known}
use Rattle.symbol_update_rule.specs.Line as line
use Rattle.symbol_update_rule.specs.Line.{Line}
use Rattle.symbol_update.specs.Update.{answer_by, record_by, words_by, line_at, updated, words_after}
use Rattle.symbol_update.specs.Updated.{Updated}

-- What was written is what is stored.
pub stored-written : (offered ws : List ℕ) → length offered ≤ length ws → length offered % 3 ≡ 0 →
    stored_words (length offered / 3) (written offered ws) ≡ offered
unfolding stored_words
stored-written offered ws h m =
    let n : length offered / 3 * 3 ≡ length offered = omega (arith, m) in
    let k : length offered / 3 ≤ length ws / 3 = omega arith in
    rw (length-written offered ws, le-ltb (length ws / 3) (length offered / 3) k, n, fits offered ws h, take-append_seam)

module _ (s : Symbol) (ws : List ℕ) (id : ℕ) (authority : Bool) (place : ℕ) (offered : List ℕ) where
  -- the stored type before and after
  abbrev stored : List Layer
  stored = layers (stored_words s.layers ws)

  abbrev after : Updated
  after = updated s ws id authority place offered

  abbrev then-stored : List Layer
  then-stored = layers (stored_words after.symbol.layers (words_after s ws authority offered))

  abbrev formed : Bool
  formed = well_formed (layers offered) && well_formed stored

  abbrev holds : List Layer → Bool
  holds t = identical t (layers offered) || concretization t (layers offered)

  abbrev by : Line → List Layer
  by l = layers (stored_words (record_by l s id authority place offered).layers (words_by l offered ws))

  known_at : Knows (eqb s.state 2) formed (holds stored) (line_at s ws authority offered)
  known_at = known (eqb s.state 2) s.authority authority stored (layers offered)

  -- A poisoned record stays as it is, and the update is accepted.
  pub poison-wins : s.state ≡ 2 → (after ≡ record { symbol = s; answer = accepted 0 }) × (words_after s ws authority offered ≡ ws)
  unfolding updated words_after line_of
  poison-wins e = (rw e, rw e)

  -- An update that is refused, or accepted with 0, changes nothing.
  pub unchanged : (after.answer.refusal ≡ 0 → after.answer.value ≡ 0) →
      (after.symbol ≡ s) × (words_after s ws authority offered ≡ ws)
  unfolding updated words_after
  unchanged = by-line (line_at s ws authority offered)
    where
      by-line : (l : Line) → ((answer_by l).refusal ≡ 0 → (answer_by l).value ≡ 0) →
          (record_by l s id authority place offered ≡ s) × (words_by l offered ws ≡ ws)
      by-line line.poisoned h = (refl, refl)
      by-line line.ill_formed h = (refl, refl)
      by-line line.kept h = (refl, refl)
      by-line line.type_replaced h = absurd (omega (arith, h refl))
      by-line line.both_replaced h = absurd (omega (arith, h refl))
      by-line line.conflicting h = (refl, refl)

  module _ (h : length offered ≤ length ws) (m : length offered % 3 ≡ 0) where
    -- No update makes a stored type that is well formed ill formed.
    pub stays-well-formed : well_formed stored ≡ true → well_formed then-stored ≡ true
    unfolding updated words_after
    stays-well-formed e = by-line (line_at s ws authority offered) known_at
      where
        replaced : formed ≡ true → well_formed (layers (stored_words (length offered / 3) (written offered ws))) ≡ true
        replaced k = rw (stored-written offered ws h m) (both (well_formed (layers offered)) (well_formed stored) k).0

        by-line : (l : Line) → Knows (eqb s.state 2) formed (holds stored) l → well_formed (by l) ≡ true
        by-line line.poisoned k = e
        by-line line.ill_formed k = e
        by-line line.kept k = e
        by-line line.type_replaced k = replaced k
        by-line line.both_replaced k = replaced k
        by-line line.conflicting k = e

    -- After an accepted update of a record that isn't poisoned, the stored type is identical to the offered one or a
    -- concretization of it.
    pub accepted-holds-offered : (s.state ≡ 2 → ⊥) → after.answer.refusal ≡ 0 → holds then-stored ≡ true
    unfolding updated words_after
    accepted-holds-offered p = by-line (line_at s ws authority offered) known_at
      where
        replaced : holds (layers (stored_words (length offered / 3) (written offered ws))) ≡ true
        replaced = rw (stored-written offered ws h m, identical-reflexive (layers offered))

        by-line : (l : Line) → Knows (eqb s.state 2) formed (holds stored) l → (answer_by l).refusal ≡ 0 → holds (by l) ≡ true
        by-line line.poisoned k e = absurd (p (eqb-true s.state 2 k))
        by-line line.ill_formed k e = absurd (omega (arith, e))
        by-line line.kept k e = k
        by-line line.type_replaced k e = replaced
        by-line line.both_replaced k e = replaced
        by-line line.conflicting k e = absurd (omega (arith, e))
