-- What an act leaves in a slot is a taken record under the name, whose words pass.
-- Assumes nothing.
use mathlib.Core.Path.{◌≡◌, refl, subst}
use mathlib.Core.Bool.{Bool, true, false, cond, false≢true}
use mathlib.Core.List.{List}
use Prim.Native.Nat.{ℕ, ◌*◌, ◌/◌, ◌≤◌}
use native.Mathlib.Omega.{arith}
use lib.Dec.{leb}
use lib.ListN.{length}
use Rattle.type_layers.specs.Answer as paper
use Rattle.type_layers.specs.Answer.{given, refused, is_given}
use Rattle.type_layers.specs.Layers.{layers}
use Rattle.type_checks.specs.Check as check
use Rattle.type_checks.specs.Check.{Place, at, nowhere, bad_count, bad_layer, misplaced, check_of}
use Rattle.type_checks.proofs.Checks.{start}
use Rattle.write_words.specs.Written.{written}
use Rattle.write_words.proofs.Writing.{length-written}
use Rattle.symbol_columns.specs.declared.symbol.Symbol.{Symbol}
use Rattle.symbol_columns.specs.Record.{free}
use Rattle.symbol_columns.specs.StoredWords.{stored_words}
use Rattle.symbol_order.specs.Order.{passes}
use Rattle.write_answer.specs.declared.answer.Answer.{Answer}
use Rattle.write_answer.specs.Flat.{accepted}
use Rattle.symbol_update.specs.Update.{typed}
use Rattle.symbol_update.proofs.Cases.{by_lines}
use Rattle.symbol_update.proofs.Theorems.{stored-written}
use Rattle.symbol_operations.specs.Act as act
use Rattle.symbol_operations.specs.Act.{Act}
use Rattle.symbol_slot.specs.Slot.{offered_check}
use Rattle.symbol_change.specs.Change.{inserts}
use Rattle.symbol_record.specs.Deed.{poisoned, Deed, deed, overwrites}
use Rattle.symbol_slot.proofs.Decided.{not_refused}

-- words that are not refused
module _ (ws : List ℕ) (e : not_refused (check_of ws) ≡ true) where
  counted : bad_count (length ws) ≡ false
  unfolding check_of
  counted =
      by_count (bad_count (length ws)) refl
      (check.unless (bad_layer 0 (layers ws)) 2 (check.unless (misplaced 0 (layers ws)) 3 (given (length ws / 3)))) e
    where
      by_count : (b : Bool) → bad_count (length ws) ≡ b → (a : paper.Answer ℕ) → not_refused (cond b (refused 1 0) a) ≡ true →
          bad_count (length ws) ≡ false
      by_count true q a f = absurd (false≢true f)
      by_count false q a f = q

  pub few_words : length ws ≤ 48
  few_words = (start ws counted).few

  pub whole-layers : length ws / 3 * 3 ≡ length ws
  whole-layers = omega (arith, (start ws counted).whole)

  pub good-words : is_given (check_of ws) ≡ true
  unfolding check_of
  good-words = by_parts (bad_count (length ws)) (bad_layer 0 (layers ws)) (misplaced 0 (layers ws)) (length ws / 3) e
    where
      by_parts : (b : Bool) (p q : Place) (n : ℕ) → not_refused (cond b (refused 1 0) (check.unless p 2 (check.unless q 3 (given n)))) ≡ true →
          is_given (cond b (refused 1 0) (check.unless p 2 (check.unless q 3 (given n)))) ≡ true
      by_parts true p q n f = absurd (false≢true f)
      by_parts false (at i) q n f = absurd (false≢true f)
      by_parts false nowhere (at i) n f = absurd (false≢true f)
      by_parts false nowhere nowhere n f = refl

  -- written over a slot
  module _ (b : List ℕ) (long : 48 ≤ length b) where
    room : length ws ≤ length b
    room = omega (arith, few_words)

    pub words-there : stored_words (length ws / 3) (written ws b) ≡ ws
    words-there = stored-written ws b room (omega (arith, whole-layers))

    pub written-passes : passes 1 (length ws / 3) (written ws b) ≡ true
    unfolding passes
    written-passes = rw words-there good-words

-- what stands in a slot
pub record Fine (id : ℕ) (ws : List ℕ) (d : Deed) : Type 0 where
  pub named : d.symbol.id ≡ id
  pub known : leb d.symbol.state 2 ≡ true
  pub taken : free d.symbol ≡ false
  pub pass : passes d.symbol.state d.symbol.layers d.words ≡ true
  pub sized : length d.words ≡ length ws

module _ (id : ℕ) (ws : List ℕ) (long : 48 ≤ length ws) (a : Answer) where
  fine-typed : (authority : Bool) (place : ℕ) (offered : List ℕ) → not_refused (check_of offered) ≡ true →
      Fine id ws (deed (typed id authority place offered) (written offered ws) a)
  fine-typed authority place offered e =
      record {
        named = refl;
        known = refl;
        taken = refl;
        pass = written-passes offered e ws long;
        sized = length-written offered ws;
      }

  fine-poisoned : (authority : Bool) (place mark : ℕ) → Fine id ws (deed (poisoned id authority place mark) ws a)
  unfolding passes
  fine-poisoned authority place mark =
      record { named = refl; known = refl; taken = refl; pass = refl; sized = refl }

  fine-same : (s : Symbol) → s.id ≡ id → leb s.state 2 ≡ true → free s ≡ false → passes s.state s.layers ws ≡ true →
      Fine id ws (deed s ws a)
  fine-same s n k t p = record { named = n; known = k; taken = t; pass = p; sized = refl }

module _ (id : ℕ) (authority : Bool) (place mark : ℕ) (offered ws : List ℕ) (long : 48 ≤ length ws) where
  pub inserts-fine : (x : Act) → not_refused (offered_check x offered) ≡ true → Fine id ws (inserts x ws id authority place mark offered)
  inserts-fine act.put_poison e = fine-poisoned id ws long _ authority place mark
  inserts-fine act.put_type e = fine-typed id ws long _ authority place offered e
  inserts-fine act.forward_poison e = fine-poisoned id ws long _ authority place mark
  inserts-fine act.forward_type e = fine-typed id ws long _ authority place offered e

  module _ (s : Symbol) (n : s.id ≡ id) (k : leb s.state 2 ≡ true) (t : free s ≡ false) (p : passes s.state s.layers ws ≡ true) where
    pub overwrites-fine : (x : Act) → not_refused (offered_check x offered) ≡ true →
        Fine id ws (overwrites x s ws id authority place mark offered)
    overwrites-fine act.put_poison e =
        subst (λ (i : ℕ). Fine i ws (overwrites act.put_poison s ws id authority place mark offered)) n
        (fine-poisoned s.id ws long _ s.authority s.place mark)
    overwrites-fine act.put_type e =
        by_lines s ws id authority place offered (λ r zs a. Fine id ws (deed r zs a))
        (fine-same id ws long _ s n k t p)
        (fine-same id ws long _ s n k t p)
        (subst (λ (i : ℕ). Fine i ws (deed (typed s.id s.authority s.place offered) (written offered ws) (accepted 1))) n
        (fine-typed s.id ws long _ s.authority s.place offered e))
        (fine-typed id ws long _ authority place offered e)
        (fine-same id ws long _ s n k t p)
    overwrites-fine act.forward_poison e = fine-poisoned id ws long _ authority place mark
    overwrites-fine act.forward_type e = fine-typed id ws long _ authority place offered e
