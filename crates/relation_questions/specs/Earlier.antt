-- No rule any more: the two questions as they were answered before request f.
use Rattle.std.specs.Prelude.{List, ℕ, eqb}
use Rattle.type_layers.specs.Layers.{layers}
use Rattle.type_layers.specs.Answer.{Answer, given, nothing, refused, next, truth}
use Rattle.type_checks.specs.Check.{check_of}
use Rattle.relation_coerces.specs.Coerces.{coerces, address_coerces}

unfoldable pub earlier_value_answer : List ℕ → List ℕ → Answer ℕ
earlier_value_answer a b = next (check_of a) (next (check_of b) (truth (coerces (layers a) (layers b))))

unfoldable pub earlier_address_answer : List ℕ → List ℕ → Answer ℕ
earlier_address_answer a b = next (check_of a) (next (check_of b) (truth (address_coerces (layers a) (layers b))))

-- Whether an answer is the number n; a refusal stays as it is.
abbrev pub whether : ℕ → Answer ℕ → Answer ℕ
whether n (given m) = truth (eqb m n)
whether n nothing = nothing
whether n (refused k p) = refused k p
