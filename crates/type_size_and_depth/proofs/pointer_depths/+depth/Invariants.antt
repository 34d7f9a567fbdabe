use lib.ListN.{length}
use Rattle.type_size_and_depth.proofs.pointer_depths.+depth.Given as goal

abbrev pub decreases-depth : goal.decreases-depth
decreases-depth l = length l.a.now
