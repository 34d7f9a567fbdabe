use lib.ListN.{length}
use Rattle.relation_declared.proofs.like.+is_like.Given as goal

abbrev pub decreases-is_like : goal.decreases-is_like
decreases-is_like l = length l.a.now
