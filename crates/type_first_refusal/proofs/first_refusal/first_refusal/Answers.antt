use Rattle.type_first_refusal.proofs.Words.{miscounted, bad_told, leaf_told, all_good}
use Rattle.type_first_refusal.proofs.first_refusal.first_refusal.Goals as goal

pub returns-then-n : goal.returns-then-n
returns-then-n c = rw c.into.ensures (miscounted _ c.if-n.true)

pub returns-in-Some : goal.returns-in-Some
returns-in-Some c = search bad_told

pub returns-in-Some-first_misplaced : goal.returns-in-Some-first_misplaced
returns-in-Some-first_misplaced c = search leaf_told

pub returns : goal.returns
returns c = search all_good
