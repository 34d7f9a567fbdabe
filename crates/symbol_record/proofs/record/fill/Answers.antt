use Rattle.symbol_record.proofs.Doing.{words-stay}
use Rattle.symbol_record.proofs.record.fill.Goals as goal

pub returns-else-offers_type : goal.returns-else-offers_type
returns-else-offers_type c = (
  rw (← c.offers_type.ensures, c.if-offers_type.false) c.poisoned.ensures,
  words-stay _ _ _ _ c.offers_type.ensures c.if-offers_type.false,
)
