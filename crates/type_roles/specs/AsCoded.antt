-- No rule, but what contracts of the code need: an entry of the code's grid in the paper's terms.
use Rattle.std.specs.Prelude.{ℕ}
use Rattle.type_roles.specs.Grid.{refused, allowed, allowed_when_well_formed}
use Rattle.type_roles.specs.declared.grid.Entry.{Entry}
use Rattle.type_roles.specs.declared.grid.Entry.TheVariants as entry

-- The value of an entry.
abbrev pub value_of : Entry → ℕ
value_of entry.Refused = refused
value_of entry.Allowed = allowed
value_of entry.AllowedWhenWellFormed = allowed_when_well_formed
