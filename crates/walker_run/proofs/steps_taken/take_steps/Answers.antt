use mathlib.Core.Bool.{true}
use native.Mathlib.Omega.{arith}
use Rattle.std.proofs.Common.{◌≡◌, refl}
use Rattle.type_numbers.specs.declared.refusal.Refusal.TheVariants.{NoStepFits}
use Rattle.walker_run.proofs.Stepping.{start, sticks-here, goes_on, writes-stuck, writes-arrived}
use Rattle.walker_run.proofs.steps_taken.take_steps.Goals as goal

pub loop-rest-init : goal.loop-rest-init
loop-rest-init c = start _ _ _ c.requires.0

pub returns-then-sticks : goal.returns-then-sticks
returns-then-sticks c =
    let none : c.is_none-sticks.result ≡ true = grind (arith, c.if-sticks.true) in
    writes-stuck c.args.table.now c.args.known.now c.args.steps.now c.args.address c.args.out.now (record { refusal = NoStepFits; place = c.loop-rest.place })
    (sticks-here c.args.table.now c.requires.1 _ _ _ _ _ _ c.loop-rest.invariant c.in-len4-up.len_at_least _ c.from-step.ensures _ _ _ _ _ c.asked_member-stored.ensures c.kind_of-k.ensures c.inner.ensures c.outer-l.ensures c.move_of-next_move.ensures _ c.is_none-sticks.ensures none)

pub loop-rest-preserved : goal.loop-rest-preserved
loop-rest-preserved c =
    goes_on c.args.table.now c.requires.1 _ _ _ _ _ _ c.loop-rest.invariant c.in-len4-up.len_at_least _ c.from-step.ensures _ _ _ _ _ c.asked_member-stored.ensures c.kind_of-k.ensures c.inner.ensures c.outer-l.ensures c.move_of-next_move.ensures _ c.is_none-sticks.ensures c.if-sticks.false _ _ _ c.go-cur.ensures c.is_desliced-desliced.ensures refl

pub returns : goal.returns
returns c =
    writes-arrived c.args.table.now c.args.known.now c.args.steps.now c.args.address c.args.out.now _ _ _ _ _ _ c.loop-rest.invariant c.in_default.len_below c.arrive.ensures
