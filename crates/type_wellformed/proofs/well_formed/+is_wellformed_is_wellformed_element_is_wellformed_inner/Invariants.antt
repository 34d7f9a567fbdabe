use Prim.Native.Nat.{◌+◌}
use lib.ListN.{length}
use Rattle.type_wellformed.proofs.well_formed.+is_wellformed_is_wellformed_element_is_wellformed_inner.Given as goal

abbrev pub decreases-is_wellformed : goal.decreases-is_wellformed
decreases-is_wellformed l = length l.a.now + 1

abbrev pub decreases-is_wellformed_element : goal.decreases-is_wellformed_element
decreases-is_wellformed_element l = length l.a.now + 3

abbrev pub decreases-is_wellformed_inner : goal.decreases-is_wellformed_inner
decreases-is_wellformed_inner l = length l.a.now + 2
