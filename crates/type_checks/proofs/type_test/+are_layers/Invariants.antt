use lib.ListN.{length}
use Rattle.type_checks.proofs.type_test.+are_layers.Given as goal

abbrev pub decreases-are_layers : goal.decreases-are_layers
decreases-are_layers l = length l.ws.now
