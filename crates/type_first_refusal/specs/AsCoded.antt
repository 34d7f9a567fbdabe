-- No rule, but how the code tells a place that a check stumbles over: an option.
use Rattle.std.specs.Prelude.{Option, Some, None, ℕ}
use Rattle.type_checks.specs.Check.{Place, at, nowhere}

abbrev pub of_place : Option ℕ → Place
of_place (Some p) = at p
of_place None = nowhere
