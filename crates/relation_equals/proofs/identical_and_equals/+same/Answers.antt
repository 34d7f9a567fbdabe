use native.Mathlib.Omega.{arith}
use Rattle.relation_equals.proofs.Steps.{same-outer}
use Rattle.relation_equals.proofs.identical_and_equals.+same.Goals as goal

pub returns-then-same_kind-n : goal.returns-then-same_kind-n
returns-then-same_kind-n g t c = grind (arith, same-outer)

pub returns-else-same_kind-n : goal.returns-else-same_kind-n
returns-else-same_kind-n g t c = grind (arith, same-outer)
