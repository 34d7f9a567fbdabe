use Rattle.type_checks.proofs.Passing.{counted-by}
use Rattle.type_first_refusal.proofs.first_refusal.check_type.Goals as goal

pub returns-then-is_type : goal.returns-then-is_type
returns-then-is_type c = search counted-by
