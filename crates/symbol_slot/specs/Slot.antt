-- Which record of a table an act is about.
use Rattle.std.specs.Prelude.{cond, List, ℕ, ltb, length}
use Rattle.type_numbers.specs.Refusal as refusal
use Rattle.type_layers.specs.Answer.{Answer, given, nothing, refused}
use Rattle.type_checks.specs.Check.{check_of}
use Rattle.symbol_columns.specs.declared.symbol.Symbol.{Symbol}
use Rattle.symbol_search.specs.Search.{slot_for, first_free}
use Rattle.symbol_order.specs.Order.{in_order}
use Rattle.symbol_operations.specs.Act.{Act}
use Rattle.symbol_operations.specs.Operations.{offers_type}
use Rattle.symbol_slot.specs.Way as way
use Rattle.symbol_slot.specs.Way.{Way}

-- "Types are checked 1, 2 (all layers), 3"; a poison mark is no type.
abbrev pub offered_check : Act → List ℕ → Answer ℕ
offered_check a offered = cond (offers_type a) (check_of offered) (given 0)

-- "12 table not in order; 13 an insertion with no free record".
unfoldable pub place_of : ℕ → List Symbol → List ℕ → Way
place_of id table store =
    cond (in_order table store)
    (cond (ltb (slot_for id table) (length table)) (way.found (slot_for id table))
    (cond (ltb (first_free table) (length table)) (way.free (first_free table))
    (way.refused refusal.table_full 0)))
    (way.refused refusal.table_not_in_order 0)

abbrev pub unless : Answer ℕ → Way → Way
unless (refused n p) w = way.refused n p
unless (given n) w = w
unless nothing w = w

-- "Types are checked 1, 2 (all layers), 3 ..; then 5, 12, 13, 4 .., 6 or 7": 4 and 7 are the update's.
unfoldable pub way_of : Act → ℕ → List ℕ → List Symbol → List ℕ → Way
way_of a id offered table store = unless (offered_check a offered) (place_of id table store)
