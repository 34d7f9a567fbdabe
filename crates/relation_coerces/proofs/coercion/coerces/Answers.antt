use native.Mathlib.Omega.{arith}
use Rattle.relation_coerces.proofs.Decisions.{coercion_looked}
use Rattle.relation_coerces.proofs.coercion.coerces.Goals as goal

pub returns-in-14-eq23 : goal.returns-in-14-eq23
returns-in-14-eq23 c = grind (arith, coercion_looked)
