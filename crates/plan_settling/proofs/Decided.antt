-- What the code's answers say in the rule's terms.
-- Assumes nothing.
use Rattle.type_layers.proofs.Words.{inner-layers}
use Rattle.relation_coerces.proofs.Theorems.{as-value, by-address}

pub ruleset answered = (inner-layers, as-value, by-address)
