use lib.ListN.{length}
use Rattle.extern_fixing.proofs.externalize.+externalize_type.Given as goal

abbrev pub decreases-externalize_type : goal.decreases-externalize_type
decreases-externalize_type l = length l.t.now
