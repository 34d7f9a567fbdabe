use Rattle.type_first_refusal.proofs.Words.{none_misplaced, last_misplaced, early, later_misplaced}
use Rattle.type_first_refusal.proofs.first_refusal.+first_misplaced.Goals as goal

pub returns-in_default : goal.returns-in_default
returns-in_default t c = search none_misplaced

pub returns-in-len3 : goal.returns-in-len3
returns-in-len3 t c = search last_misplaced

pub returns-then-holds_inner : goal.returns-then-holds_inner
returns-then-holds_inner t c = search later_misplaced

pub returns-else-holds_inner : goal.returns-else-holds_inner
returns-else-holds_inner t c = search early
