use Rattle.write_type.proofs.Outcomes.{whole}
use Rattle.write_type.proofs.made.whole_layers.Goals as goal

pub returns : goal.returns
returns c = search whole
