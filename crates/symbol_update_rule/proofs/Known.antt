-- What is known where each sort of line applies.
-- Assumes nothing.
use mathlib.Core.Path.{◌≡◌, refl}
use mathlib.Core.Bool.{Bool, true, false, cond, not, ◌&&◌, ◌||◌}
use mathlib.Core.List.{List}
use Rattle.type_layers.specs.Layers.{Layer}
use Rattle.type_wellformed.specs.WellFormed.{well_formed}
use Rattle.relation_equals.specs.Equals.{identical}
use Rattle.relation_declared.specs.Declared.{declared, concretization}
use Rattle.relation_coerces.specs.Coerces.{coerces}
use Rattle.symbol_update_rule.specs.Rule.{line_of}
use Rattle.symbol_update_rule.specs.Line as line
use Rattle.symbol_update_rule.specs.Line.{Line}

-- the lines, by the tests alone
abbrev first : Bool → Bool → Bool → Bool → Bool → Line
first p f k d b =
    cond p line.poisoned
    (cond (not f) line.ill_formed
    (cond k line.kept
    (cond d line.type_replaced
    (cond b line.both_replaced
    line.conflicting))))

-- p: poisoned; f: both types are well formed; k: the stored type holds the offered one
abbrev pub Knows : (p f k : Bool) → Line → Type 0
Knows p f k line.poisoned = p ≡ true
Knows p f k line.ill_formed = f ≡ false
Knows p f k line.kept = k ≡ true
Knows p f k line.type_replaced = f ≡ true
Knows p f k line.both_replaced = f ≡ true
Knows p f k line.conflicting = Unit

knows : (p f k d b : Bool) → Knows p f k (first p f k d b)
knows true f k d b = refl
knows false false k d b = refl
knows false true true d b = refl
knows false true false true b = refl
knows false true false false true = refl
knows false true false false false = tt

pub known : (p a n : Bool) (s o : List Layer) →
    Knows p (well_formed o && well_formed s) (identical s o || concretization s o) (line_of p a n s o)
unfolding line_of
known p a n s o =
    knows p (well_formed o && well_formed s) (identical s o || concretization s o) (a && declared o s)
    (n && (concretization o s || coerces o s))
