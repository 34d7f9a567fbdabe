use lib.ListN.{length}
use Rattle.type_stored_size.proofs.stored_sizes.+stored.Given as goal

abbrev pub decreases-stored : goal.decreases-stored
decreases-stored l = length l.a.now
