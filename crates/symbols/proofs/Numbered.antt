-- What is refused has a number that is not 0.
-- Assumes nothing.
use mathlib.Core.Path.{◌≡◌, refl}
use mathlib.Core.Bool.{Bool, true, false, cond, not}
use mathlib.Core.List.{List}
use Prim.Native.Nat.{ℕ, ◌/◌}
use lib.Dec.{eqb, ltb}
use lib.ListN.{length}
use Rattle.type_layers.specs.Answer as paper
use Rattle.type_layers.specs.Answer.{given, nothing, refused}
use Rattle.type_layers.specs.Layers.{layers}
use Rattle.type_checks.specs.Check as check
use Rattle.type_checks.specs.Check.{Place, at, nowhere, bad_count, bad_layer, misplaced, check_of}
use Rattle.symbol_columns.specs.declared.symbol.Symbol.{Symbol}
use Rattle.symbol_search.specs.Search.{slot_for, first_free}
use Rattle.symbol_order.specs.Order.{in_order}
use Rattle.symbol_operations.specs.Act as act
use Rattle.symbol_operations.specs.Act.{Act}
use Rattle.symbol_slot.specs.Way as way
use Rattle.symbol_slot.specs.Way.{Way}
use Rattle.symbol_slot.specs.Slot.{offered_check, place_of, unless, way_of}

abbrev check_numbered : paper.Answer ℕ → Bool
check_numbered (given n) = true
check_numbered nothing = true
check_numbered (refused n p) = not (eqb n 0)

abbrev pub numbered : Way → Bool
numbered (way.refused n p) = not (eqb n 0)
numbered (way.found k) = true
numbered (way.free k) = true

check-numbered : (ws : List ℕ) → check_numbered (check_of ws) ≡ true
unfolding check_of
check-numbered ws = by_parts (bad_count (length ws)) (bad_layer 0 (layers ws)) (misplaced 0 (layers ws)) (length ws / 3)
  where
    by_parts : (b : Bool) (p q : Place) (n : ℕ) → check_numbered (cond b (refused 1 0) (check.unless p 2 (check.unless q 3 (given n)))) ≡ true
    by_parts true p q n = refl
    by_parts false (at i) q n = refl
    by_parts false nowhere (at i) n = refl
    by_parts false nowhere nowhere n = refl

offered-numbered : (a : Act) (offered : List ℕ) → check_numbered (offered_check a offered) ≡ true
offered-numbered act.put_poison offered = refl
offered-numbered act.put_type offered = check-numbered offered
offered-numbered act.forward_poison offered = refl
offered-numbered act.forward_type offered = check-numbered offered

unless-numbered : (a : paper.Answer ℕ) (w : Way) → check_numbered a ≡ true → numbered w ≡ true → numbered (unless a w) ≡ true
unless-numbered (given n) w e f = f
unless-numbered nothing w e f = f
unless-numbered (refused n p) w e f = e

place-numbered : (id : ℕ) (table : List Symbol) (store : List ℕ) → numbered (place_of id table store) ≡ true
unfolding place_of
place-numbered id table store = by_parts (in_order table store) (ltb (slot_for id table) (length table)) (ltb (first_free table) (length table))
  where
    by_parts : (o t u : Bool) →
        numbered (cond o (cond t (way.found (slot_for id table)) (cond u (way.free (first_free table)) (way.refused 13 0))) (way.refused 12 0)) ≡ true
    by_parts false t u = refl
    by_parts true true u = refl
    by_parts true false true = refl
    by_parts true false false = refl

pub way-numbered : (a : Act) (id : ℕ) (offered : List ℕ) (table : List Symbol) (store : List ℕ) → numbered (way_of a id offered table store) ≡ true
unfolding way_of
way-numbered a id offered table store =
    unless-numbered (offered_check a offered) (place_of id table store) (offered-numbered a offered) (place-numbered id table store)
