use mathlib.Core.Path.{◌≡◌}
use Prim.Native.Nat.{◌*◌}
use lib.ListN.{length, drop}
use Rattle.symbol_columns.specs.AsCoded.{read_from}
use Rattle.symbol_columns.proofs.Reading.{from}
use Rattle.symbol_order.specs.Order.{in_order}
use Rattle.symbol_order.specs.AsCoded.{Noted}
use Rattle.symbol_order.proofs.Onward.{onward}
use Rattle.symbol_order.proofs.order.in_order.Given as goal

abbrev pub invariant-loop-k : goal.invariant-loop-k
invariant-loop-k l =
    (length l.noted ≡ 512)
    × Noted l.noted l.columns l.k
    × (onward l.free (read_from l.columns 0 l.k) (from l.columns l.count l.k) (drop (l.k * 48) l.store) ≡ in_order (read_from l.columns 0 l.count) l.store)
