-- "An update changes the lent symbol itself, by the first line that applies": which line that is.
use Rattle.std.specs.Prelude.{Bool, cond, not, ◌&&◌, ◌||◌, List}
use Rattle.type_layers.specs.Layers.{Layer}
use Rattle.type_wellformed.specs.WellFormed.{well_formed}
use Rattle.relation_equals.specs.Equals.{identical}
use Rattle.relation_declared.specs.Declared.{declared, concretization}
use Rattle.relation_coerces.specs.Coerces.{coerces}
use Rattle.symbol_update_rule.specs.Line as line
use Rattle.symbol_update_rule.specs.Line.{Line}

unfoldable pub line_of : Bool → Bool → Bool → List Layer → List Layer → Line
line_of poisoned authoritative newly stored offered =
    -- "poisoned: accepted, nothing changes."
    cond poisoned line.poisoned
    -- "Offered type, then stored type, ill formed: 4."
    (cond (not (well_formed offered && well_formed stored)) line.ill_formed
    -- "Identical, or stored is a concretization of offered: accepted, nothing changes."
    (cond (identical stored offered || concretization stored offered) line.kept
    -- "Symbol authoritative and offered is declared as stored: type replaced, identifier kept."
    (cond (authoritative && declared offered stored) line.type_replaced
    -- "New identifier authoritative and offered is a concretization of or coerces into stored: both replaced."
    (cond (newly && (concretization offered stored || coerces offered stored)) line.both_replaced
    -- "Else 7."
    line.conflicting))))
