use lib.ListN.{length}
use Rattle.relation_equals.proofs.identical_and_equals.+same.Given as goal

abbrev pub decreases-same : goal.decreases-same
decreases-same g l = length l.a.now
