-- What is done to a table under a name: "Put with nothing", or one of the acts.
use Rattle.symbol_operations.specs.Act.{Act}

pub data Operation : Type 0 where
  put_nothing : Operation
  acts : Act → Operation
