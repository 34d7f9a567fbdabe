use mathlib.Core.Path.{◌≡◌}
use Rattle.symbol_lent.specs.AsCoded.{rows_into}
use Rattle.symbol_lent.proofs.gather_rows.gather.Given as goal

abbrev pub invariant-loop-i : goal.invariant-loop-i
invariant-loop-i l = l.flat ≡ rows_into l.initial.flat l.table l.i
