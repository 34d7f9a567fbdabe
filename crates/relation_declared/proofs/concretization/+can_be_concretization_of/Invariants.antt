use lib.ListN.{length}
use Rattle.relation_declared.proofs.concretization.+can_be_concretization_of.Given as goal

abbrev pub decreases-can_be_concretization_of : goal.decreases-can_be_concretization_of
decreases-can_be_concretization_of l = length l.a.now
