use lib.ListN.{length}
use Rattle.std.proofs.lemmas.Result.{err_from_is_err_and}
use Rattle.plan_rounds.proofs.Finishing.{hands-same, hands-refused, rounds-refused, rounds-ended}
use Rattle.plan_rounds.proofs.rounds.plan_in_rounds.Goals as goal

pub returns-in_err-cur : goal.returns-in_err-cur
returns-in_err-cur c =
    let p = err_from_is_err_and c.from_residual.result c.from_residual.ensures.1 in
    hands-refused _ _ _ _ _ _ p.1 p.2 (rounds-refused c.args.table.now c.args.question.now (length c.args.steps.now) (length c.args.ty.now) _ c.in_err-cur.ensures.err)

pub returns : goal.returns
returns c =
    hands-same _ _ _ _ _ _ _ (rounds-ended c.args.table.now c.args.question.now (length c.args.steps.now) (length c.args.ty.now) _ _ _ c.in_ok-cur.ensures.ok.0) c.finish.ensures
