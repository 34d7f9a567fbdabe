-- No rule any more: the checks as they were before request e, when refusal 2 told the layer alone: "2 a bad layer, 3 leaf
-- early or missing (place of both: the first such layer, from 0)". What a good layer is did not change.
use Rattle.std.specs.Prelude.{cond, List, [], ◌∷◌, ℕ, ◌+◌, ◌/◌, eqb, length}
use Rattle.type_numbers.specs.Refusal as refusal
use Rattle.type_layers.specs.Layers.{Layer, layers}
use Rattle.type_layers.specs.Answer.{Answer, given, nothing, refused}
use Rattle.type_checks.specs.Check.{Place, at, nowhere, bad_count, good_layer, misplaced, unless}

unfoldable pub earlier_bad_layer : ℕ → List Layer → Place
earlier_bad_layer p [] = nowhere
earlier_bad_layer p (x ∷ a) = cond (good_layer x) (earlier_bad_layer (p + 1) a) (at p)

unfoldable pub earlier_check_of : List ℕ → Answer ℕ
earlier_check_of ws =
    cond (bad_count (length ws)) (refused refusal.bad_count 0)
    (unless (earlier_bad_layer 0 (layers ws)) refusal.bad_layer
    (unless (misplaced 0 (layers ws)) refusal.bad_leaf
    (given (length ws / 3))))

-- An answer with the layer alone as the place of 2.
abbrev pub without_word : Answer ℕ → Answer ℕ
without_word (given n) = given n
without_word nothing = nothing
without_word (refused n p) = refused n (cond (eqb n refusal.bad_layer) (p / 3) p)
