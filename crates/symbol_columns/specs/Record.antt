-- "A record holds id, authority, place, state (0 free, 1 typed, 2 poisoned), layer count and poison mark."
use Rattle.std.specs.Prelude.{Bool, false, eqb}
use Rattle.type_numbers.specs.State as of-state
use Rattle.symbol_columns.specs.declared.symbol.Symbol.{Symbol}

abbrev pub free : Symbol → Bool
free s = eqb s.state of-state.free

abbrev pub typed : Symbol → Bool
typed s = eqb s.state of-state.typed

-- A free record of zeros.
abbrev pub vacant : Symbol
vacant = record { id = 0; authority = false; place = 0; state = of-state.free; layers = 0; mark = 0 }
