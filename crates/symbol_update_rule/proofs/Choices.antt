-- What the code of the rule asks for, with the names that an attribute can cite.
-- Assumes nothing.
use Rattle.relation_coerces.proofs.Theorems.{as-value}

pub ruleset read_as_value = (as-value)
