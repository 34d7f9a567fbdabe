-- "Get answers absent, the type, or the poison mark": the type by its slot; or a refusal, with its number and its place.
use Rattle.std.specs.Prelude.{ℕ}

pub data Got : Type 0 where
  absent : Got
  typed : ℕ → Got
  poisoned : ℕ → Got
  refused : ℕ → ℕ → Got
