-- No rule, but what contracts of the code need: what one pass over a table asks of a record, by those before it (`Onward.one-pass` shows that it asks for the order).
use Rattle.std.specs.Prelude.{◌≡◌, Bool, true, false, cond, List, ℕ, ◌%◌, ◌<◌, leb, get_or}
use Rattle.symbol_columns.specs.declared.symbol.Symbol.{Symbol}
use Rattle.symbol_columns.specs.Record.{free}
use Rattle.symbol_order.specs.Order.{has_id, passes}

-- A free record can stand anywhere; a taken one not after a free one (`after`), of a known state, under an id that none
-- before it has, and with words that pass.
unfoldable pub stands : Bool → List Symbol → Symbol → List ℕ → Bool
stands after before s words =
    cond (free s) true
    (cond after false
    (cond (leb s.state 2)
    (cond (has_id s.id before) false (passes s.state s.layers words))
    false))

-- The ids of the first k rows are noted, by their remainder by 512.
pub record Noted (noted : List Bool) (ws : List ℕ) (k : ℕ) : Type 0 where
  pub before : (i : ℕ) → i < k → get_or noted (get_or ws i 0 % 512) false ≡ true
