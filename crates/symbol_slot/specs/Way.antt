-- What an act comes to in a table: a refusal with its number and its place, the slot of the record that has the id, or the
-- slot of the first free one.
use Rattle.std.specs.Prelude.{ℕ}

pub data Way : Type 0 where
  refused : ℕ → ℕ → Way
  found : ℕ → Way
  free : ℕ → Way
