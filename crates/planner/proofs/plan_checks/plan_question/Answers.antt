use lib.ListN.{length}
use Rattle.std.proofs.lemmas.Result.{err_from_is_err_and}
use Rattle.plan_rounds.proofs.Finishing.{hands-same}
use Rattle.planner.proofs.Asking.{hands-told, known-whole, target-whole, few-rounds, question-refused, question-passed}
use Rattle.planner.proofs.plan_checks.plan_question.Goals as goal

pub returns-in_err-check_question : goal.returns-in_err-check_question
returns-in_err-check_question c =
    let p = err_from_is_err_and c.from_residual.result c.from_residual.ensures.1 in
    hands-told _ _ p.0 _ _ p.1
    (rw p.2 (question-refused c.args.table.now c.args.question.now (length c.args.steps.now) (length c.args.ty.now) _ _ c.in_err-check_question.ensures))

pub plan_checked-requires : goal.plan_checked-requires
plan_checked-requires c =
    let q = c.args.question.now in
    let e = c.in_ok-check_question.ensures in
    (known-whole q _ e, target-whole q _ e, few-rounds q _ e)

pub returns : goal.returns
returns c =
    hands-same _ _ _ _ _ _ _
    (question-passed c.args.table.now c.args.question.now (length c.args.steps.now) (length c.args.ty.now) _ c.in_ok-check_question.ensures) c.plan_checked.ensures
