-- The one coercion question says what the two of before said, of any words.
-- Assumes nothing.
use mathlib.Core.Path.{◌≡◌, refl, ap}
use mathlib.Core.Bool.{Bool}
use mathlib.Core.List.{List}
use Prim.Native.Nat.{ℕ}
use lib.Dec.{eqb}
use Rattle.type_numbers.specs.CoercionNumber as of-coercion
use Rattle.type_layers.specs.Layers.{layers}
use Rattle.type_layers.specs.Answer.{Answer, given, nothing, refused, next, truth}
use Rattle.type_checks.specs.Check.{check_of}
use Rattle.relation_coerces.specs.Coerces.{coerces, address_coerces}
use Rattle.relation_coerces.specs.Coercion.{coercion}
use Rattle.relation_coerces.proofs.Theorems.{as-value, by-address}
use Rattle.relation_questions.specs.Questions.{coercion_answer}
use Rattle.relation_questions.specs.Earlier.{earlier_value_answer, earlier_address_answer, whether}

-- after two checks, of which a refusal stands
after-checks : (x y : Answer ℕ) (n m : ℕ) (f : Bool) → eqb m n ≡ f → whether n (next x (next y (given m))) ≡ next x (next y (truth f))
after-checks (refused k p) y n m f e = refl
after-checks (given i) (refused k p) n m f e = refl
after-checks (given i) (given j) n m f e = ap truth e
after-checks (given i) nothing n m f e = ap truth e
after-checks nothing (refused k p) n m f e = refl
after-checks nothing (given j) n m f e = ap truth e
after-checks nothing nothing n m f e = ap truth e

-- It answers as a value exactly where the first said yes, and refuses what that refused;
pub value-as-it-was : (a b : List ℕ) → whether of-coercion.as_value (coercion_answer a b) ≡ earlier_value_answer a b
unfolding coercion_answer earlier_value_answer
value-as-it-was a b =
    after-checks (check_of a) (check_of b) of-coercion.as_value (coercion (layers a) (layers b)) (coerces (layers a) (layers b)) (as-value (layers a) (layers b))

-- by address exactly where the second did.
pub address-as-it-was : (a b : List ℕ) → whether of-coercion.by_address (coercion_answer a b) ≡ earlier_address_answer a b
unfolding coercion_answer earlier_address_answer
address-as-it-was a b =
    after-checks (check_of a) (check_of b) of-coercion.by_address (coercion (layers a) (layers b)) (address_coerces (layers a) (layers b)) (by-address (layers a) (layers b))
