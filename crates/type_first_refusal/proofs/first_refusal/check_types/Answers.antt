use Rattle.type_checks.proofs.Refusals.{left-passes, left-fails}
use Rattle.type_first_refusal.proofs.first_refusal.check_types.Goals as goal

pub returns-then-is_type : goal.returns-then-is_type
returns-then-is_type c = search left-passes

pub returns-else-is_type : goal.returns-else-is_type
returns-else-is_type c = search left-fails
