-- What an update leaves in the record, and its answer.
use Rattle.symbol_columns.specs.declared.symbol.Symbol.{Symbol}
use Rattle.write_answer.specs.declared.answer.Answer.{Answer}

pub record Updated : Type 0 where
  pub symbol : Symbol
  pub answer : Answer
