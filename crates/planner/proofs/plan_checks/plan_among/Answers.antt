use Rattle.plan_report.proofs.Delivering.{reports}
use Rattle.planner.proofs.plan_checks.plan_among.Goals as goal

pub returns : goal.returns
returns c = (reports _ _ _ c.plan_question.ensures.0 c.from.ensures, c.plan_question.ensures.1)
