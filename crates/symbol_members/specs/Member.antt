-- What a table has of a member.
use Rattle.std.specs.Prelude.{List}
use Rattle.type_layers.specs.Layers.{Layer}

pub data Stored : Type 0 where
  typed : List Layer → Stored
  absent : Stored
