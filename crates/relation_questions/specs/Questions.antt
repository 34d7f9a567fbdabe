-- A relation or a coercion, asked of any words: "Types are checked 1, 2 (all layers), 3, left before right".
use Rattle.std.specs.Prelude.{Bool, List, ℕ}
use Rattle.type_layers.specs.Layers.{Layer, layers}
use Rattle.type_layers.specs.Answer.{Answer, given, next, truth}
use Rattle.type_checks.specs.Check.{check_of}
use Rattle.relation_equals.specs.Equals.{identical, equals}
use Rattle.relation_declared.specs.Declared.{like, declared, concretization}
use Rattle.relation_coerces.specs.Coerces.{autoderefs, subautoderefs}
use Rattle.relation_coerces.specs.Coercion.{coercion}
use Rattle.relation_questions.specs.declared.ask_relation.Relation.{Relation}
use Rattle.relation_questions.specs.declared.ask_relation.Relation.TheVariants as relation

abbrev pub relates : Relation → List Layer → List Layer → Bool
relates relation.Identical a b = identical a b
relates relation.Equals a b = equals a b
relates relation.Like a b = like a b
relates relation.DeclaredAs a b = declared a b
relates relation.ConcretizationOf a b = concretization a b
relates relation.Autoderefs a b = autoderefs a b
relates relation.Subautoderefs a b = subautoderefs a b

unfoldable pub relation_answer : Relation → List ℕ → List ℕ → Answer ℕ
relation_answer r a b = next (check_of a) (next (check_of b) (truth (relates r (layers a) (layers b))))

unfoldable pub coercion_answer : List ℕ → List ℕ → Answer ℕ
coercion_answer a b = next (check_of a) (next (check_of b) (given (coercion (layers a) (layers b))))
