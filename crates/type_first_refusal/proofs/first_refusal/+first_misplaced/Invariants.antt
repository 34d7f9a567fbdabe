use lib.ListN.{length}
use Rattle.type_first_refusal.proofs.first_refusal.+first_misplaced.Given as goal

abbrev pub decreases-first_misplaced : goal.decreases-first_misplaced
decreases-first_misplaced l = length l.ws.now
