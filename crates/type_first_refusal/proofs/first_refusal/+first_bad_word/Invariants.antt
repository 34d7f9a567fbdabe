use lib.ListN.{length}
use Rattle.type_first_refusal.proofs.first_refusal.+first_bad_word.Given as goal

abbrev pub decreases-first_bad_word : goal.decreases-first_bad_word
decreases-first_bad_word l = length l.ws.now
