-- No rule, but what the code asks for both rules: whether two types are the same, as they are or after Char8 is replaced.
use Rattle.std.specs.Prelude.{Bool, cond, List, ℕ}
use Rattle.type_layers.specs.Layers.{Layer}
use Rattle.relation_equals.specs.Equals.{plain_kind, plain, identical}

abbrev pub counted_kind : Bool → ℕ → ℕ
counted_kind replaced k = cond replaced (plain_kind k) k

abbrev pub counted : Bool → List Layer → List Layer
counted replaced a = cond replaced (plain a) a

unfoldable pub same : Bool → List Layer → List Layer → Bool
same replaced a b = identical (counted replaced a) (counted replaced b)
