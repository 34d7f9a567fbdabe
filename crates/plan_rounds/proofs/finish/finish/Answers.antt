use native.Mathlib.Omega.{arith}
use lib.ListN.{length}
use Rattle.std.proofs.lemmas.Result.{err_from_is_err_and}
use Rattle.plan_rounds.proofs.Finishing.{hands-same, hands-refused, whole-depth, extra-few, lead-few, body-whole, fours, not-settled, settled}
use Rattle.plan_rounds.proofs.finish.finish.Goals as goal

pub returns-in_err-ending : goal.returns-in_err-ending
returns-in_err-ending c =
    let p = err_from_is_err_and c.from_residual.result c.from_residual.ensures.1 in
    hands-refused _ _ _ _ _ _ p.1 p.2
    (not-settled c.args.cur.now c.args.question.now.target.now c.args.plan.now c.args.taken c.args.question.now.level (length c.args.steps.now) (length c.args.ty.now)
    _ c.from-level.ensures _ c.settle-settling.ensures _ c.depth.ensures _ c.in_err-ending.ensures)

pub repeat-requires : goal.repeat-requires
repeat-requires c =
    omega (arith, c.requires.2, extra-few c.settle-settling.result c.depth.result _ _ c.in_ok-ending.ensures (omega (arith, c.depth.ensures, whole-depth c.args.cur.now c.requires.0)))

pub deliver-requires : goal.deliver-requires
deliver-requires c =
    (fours _ _ c.words.ensures, body-whole _ _ _ _ c.body_of.ensures c.requires.0 c.requires.1, lead-few _ _ _ _ c.in_ok-ending.ensures (omega arith))

pub returns : goal.returns
returns c =
    hands-same _ _ _ _ _ _ _
    (settled c.args.cur.now c.args.question.now.target.now c.args.plan.now c.args.taken c.args.question.now.level (length c.args.steps.now) (length c.args.ty.now)
    _ c.from-level.ensures _ c.settle-settling.ensures _ c.depth.ensures _ _ _ _ _ c.in_ok-ending.ensures c.from.ensures c.repeat.ensures c.words.ensures c.body_of.ensures)
    c.deliver.ensures
