use Rattle.type_layers.proofs.Words.{outer-none, outer-more}
use Rattle.type_layers.proofs.outer_and_inner.outer.Goals as goal

pub returns-in_default : goal.returns-in_default
returns-in_default c = search outer-none

pub returns-in-len3-up : goal.returns-in-len3-up
returns-in-len3-up c = search outer-more
