-- "One coercion question."
use Rattle.std.specs.Prelude.{cond, List, ℕ}
use Rattle.type_numbers.specs.CoercionNumber as of-coercion
use Rattle.type_layers.specs.Layers.{Layer}
use Rattle.relation_coerces.specs.Coerces.{coerces, address_coerces}

-- "Merge both into one question with three answers: none, as a value, by address."
unfoldable pub coercion : List Layer → List Layer → ℕ
coercion a b =
    cond (coerces a b) of-coercion.as_value
    (cond (address_coerces a b) of-coercion.by_address
    of-coercion.none)
