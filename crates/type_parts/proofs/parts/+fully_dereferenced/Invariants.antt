use lib.ListN.{length}
use Rattle.type_parts.proofs.parts.+fully_dereferenced.Given as goal

abbrev pub decreases-fully_dereferenced : goal.decreases-fully_dereferenced
decreases-fully_dereferenced l = length l.a.now
