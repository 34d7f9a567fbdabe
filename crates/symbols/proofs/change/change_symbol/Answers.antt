use mathlib.Core.Path.{refl, ap, ◌∙◌}
use Prim.Native.Nat.{◌<◌}
use native.Mathlib.Omega.{arith}
use lib.ListN.{length}
use Rattle.write_answer.specs.Flat.{accepted}
use Rattle.symbols.proofs.Whole.{answered, store-changed, table-kept, table-changed, slot_within}
use Rattle.symbols.proofs.change.change_symbol.Goals as goal
use Rattle.symbols.proofs.change.change_symbol.Goals.{in-Some, in_default}

pub offset_bounds-table-slot : goal.offset_bounds-table-slot
offset_bounds-table-slot c =
    let within : c.in-Some.slot < length c.args.table.now = slot_within _ _ _ _ _ _ _ _ _ _ c.gather.ensures _ c.in-Ok.ensures _ _ c.in-Some.is in
    record { fits = omega (arith, within) }

pub bounds-table-slot : goal.bounds-table-slot
bounds-table-slot c = slot_within _ _ _ _ _ _ _ _ _ _ c.gather.ensures _ c.in-Ok.ensures _ _ c.in-Some.is

pub returns-after-change : goal.returns-after-change
returns-after-change c = (
  answered _ _ _ _ _ _ _ _ _ _ c.gather.ensures _ c.in-Ok.ensures _ (c.accepted.ensures ∙ ap accepted c.into.ensures),
  elim c.match-change.branch [
    | in-Some w ↦ table-changed _ _ _ _ _ _ _ _ _ _ c.gather.ensures _ c.in-Ok.ensures _ _ w.in-Some.is _ w.table-is
    | in_default w ↦ table-kept _ _ _ _ _ _ _ _ _ _ c.gather.ensures _ c.in-Ok.ensures _ w.in_default.is w.table-is
  ],
  store-changed _ _ _ _ _ _ _ _ _ _ c.gather.ensures _ c.in-Ok.ensures,
)

pub returns-in-Err : goal.returns-in-Err
returns-in-Err c = (
  answered _ _ _ _ _ _ _ _ _ _ c.gather.ensures _ c.in-Err.ensures _ c.into-in-Err.ensures,
  table-kept _ _ _ _ _ _ _ _ _ _ c.gather.ensures _ c.in-Err.ensures _ refl refl,
  store-changed _ _ _ _ _ _ _ _ _ _ c.gather.ensures _ c.in-Err.ensures,
)
