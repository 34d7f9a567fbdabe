-- The search through a table is by position.
-- Assumes nothing.
use mathlib.Core.Path.{◌≡◌, refl, ap, ◌∙◌}
use mathlib.Core.Bool.{Bool, true, false, cond, not}
use mathlib.Core.List.{List, [], ◌∷◌}
use Prim.Native.Nat.{ℕ, suc, ◌+◌}
use native.Mathlib.Omega.{arith}
use lib.Dec.{ltb}
use lib.ListN.{length}
use Rattle.std.proofs.Common.{Option, Some, None}
use Rattle.std.specs.List.{position_or_len}
use Rattle.symbol_columns.specs.declared.symbol.Symbol.{Symbol}
use Rattle.symbol_search.specs.Search.{has, slot_for, among}

by_position : (id : ℕ) (table : List Symbol) → position_or_len (has id) table ≡ slot_for id table
unfolding slot_for
by_position id [] = refl
by_position id (s ∷ table) =
    ap (λ (m : ℕ). cond (not (has id s)) (1 + m) 0) (by_position id table) ∙ stops (has id s)
  where
    stops : (b : Bool) → cond (not b) (1 + slot_for id table) 0 ≡ cond b 0 (suc (slot_for id table))
    stops true = refl
    stops false = omega arith

pub slot_found : (id : ℕ) (table : List Symbol) (r : Option ℕ) →
    r ≡ cond (ltb (position_or_len (has id) table) (length table)) (Some (position_or_len (has id) table)) None → r ≡ among (length table) (slot_for id table)
slot_found id table r e = rw (by_position id table) at e
