use lib.ListN.{length}
use Rattle.relation_coerces.proofs.autoderefs.+can_subautoderef_into.Given as goal

abbrev pub decreases-can_subautoderef_into : goal.decreases-can_subautoderef_into
decreases-can_subautoderef_into l = length l.a.now
