use lib.ListN.{length}
use Rattle.std.proofs.Common.{refl}
use Rattle.type_numbers.specs.declared.refusal.Refusal.TheVariants.{TableNotInOrder, IllFormed}
use Rattle.plan_rounds.proofs.Finishing.{hands-same, hands-refused}
use Rattle.planner.proofs.Asking.{out_of_order, known-ill-formed, target-ill-formed, planned-so, all_whole}
use Rattle.planner.proofs.plan_checks.plan_checked.Goals as goal

pub returns-then-not-in_order : goal.returns-then-not-in_order
returns-then-not-in_order c =
    hands-refused _ TableNotInOrder _ c.into.result _ _ refl c.into.ensures
    (out_of_order c.args.table.now c.args.question.now (length c.args.steps.now) (length c.args.ty.now) c.if-not-in_order.ensures)

pub returns-then-not-is_wellformed : goal.returns-then-not-is_wellformed
returns-then-not-is_wellformed c =
    hands-refused _ IllFormed _ c.into-then-not-is_wellformed.result _ _ refl c.into-then-not-is_wellformed.ensures
    (known-ill-formed c.args.table.now c.args.question.now (length c.args.steps.now) (length c.args.ty.now) c.if-not-in_order.ensures c.if-not-is_wellformed.ensures)

pub returns-then-not-is_wellformed-2 : goal.returns-then-not-is_wellformed-2
returns-then-not-is_wellformed-2 c =
    hands-refused _ IllFormed _ c.into-then-not-is_wellformed-2.result _ _ refl c.into-then-not-is_wellformed-2.ensures
    (target-ill-formed c.args.table.now c.args.question.now (length c.args.steps.now) (length c.args.ty.now) c.if-not-in_order.ensures c.if-not-is_wellformed.ensures c.if-not-is_wellformed-2.ensures)

pub plan_in_rounds-requires-clause-all_whole : goal.plan_in_rounds-requires-clause-all_whole
plan_in_rounds-requires-clause-all_whole c = all_whole c.args.table.now c.if-not-in_order.ensures

pub returns : goal.returns
returns c =
    hands-same _ _ _ _ _ _ _
    (planned-so c.args.table.now c.args.question.now (length c.args.steps.now) (length c.args.ty.now) c.if-not-in_order.ensures c.if-not-is_wellformed.ensures c.if-not-is_wellformed-2.ensures)
    c.plan_in_rounds.ensures
