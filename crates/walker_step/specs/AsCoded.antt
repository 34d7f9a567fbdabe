-- No rule, but what contracts of the code need: one step of the walker on numbers and words.
use Rattle.std.specs.Prelude.{◌≡◌, Bool, true, false, cond, Option, Some, None, ◌&&◌, ◌||◌, List, ◌∷◌, ℕ, ◌≤◌, eqb, length}
use Rattle.type_numbers.specs.Kind as kind
use Rattle.type_layers.specs.Layers.{Layer, layer, layers, inside, inner_words, is_array, is_reference}
use Rattle.type_layers.specs.AsCoded.{Whole}
use Rattle.type_numbers.specs.StepKind as of-step
use Rattle.type_numbers.specs.Mark as of-mark
use Rattle.walker_rule.specs.Walker.{Where, at, stuck}
use Rattle.walker_step.specs.declared.step_move.Move.{Move}
use Rattle.walker_step.specs.declared.step_move.Move.TheVariants.{Inside, TwoInside, Deslice, Member}

-- k is the outer kind, l the kind inside. Where a step sticks, it has no move.
abbrev pub on_element : ℕ → ℕ → Option Move
on_element k l = cond (is_array k) (Some Inside) (cond (is_reference k && eqb l kind.arraylike) (Some TwoInside) None)

abbrev pub on_member : ℕ → Bool → Option Move
on_member k there = cond ((eqb k kind.struct || eqb k kind.word) && there) (Some Member) None

abbrev pub on_autodeslice : ℕ → ℕ → Option Move
on_autodeslice k mark =
    cond (eqb k kind.slice && eqb mark of-mark.by_view || eqb k kind.slice_pointer && eqb mark of-mark.by_pointer) (Some Deslice) None

abbrev pub takes_off : ℕ → ℕ → Option Move
takes_off k wanted = cond (eqb k wanted) (Some Inside) None

unfoldable pub move_of : ℕ → ℕ → ℕ → ℕ → Bool → Option Move
move_of s mark k l there =
    cond (eqb s of-step.element) (on_element k l)
    (cond (eqb s of-step.member) (on_member k there)
    (cond (eqb s of-step.autodeslice) (on_autodeslice k mark)
    (cond (eqb s of-step.autoderef) (takes_off k kind.pointer)
    (cond (eqb s of-step.autoview) (takes_off k kind.view)
    None))))

-- The type at these words, where the flag tells that its outer layer counts as Arraylike.
unfoldable pub seen : List ℕ → Bool → List Layer
seen ws b = cond b (layer kind.arraylike 0 0 ∷ inside (layers ws)) (layers ws)

-- The words where a move leads, and the flag there; where a step sticks, the words are those where the walker is.
unfoldable pub onward : Option Move → List ℕ → List ℕ → List ℕ
onward None ws stored = ws
onward (Some Inside) ws stored = inner_words ws
onward (Some TwoInside) ws stored = inner_words (inner_words ws)
onward (Some Deslice) ws stored = ws
onward (Some Member) ws stored = stored

unfoldable pub desliced : Option Move → Bool
desliced None = false
desliced (Some Inside) = false
desliced (Some TwoInside) = false
desliced (Some Deslice) = true
desliced (Some Member) = false

-- Where the walker is then.
unfoldable pub moved : Option Move → List ℕ → List ℕ → Where
moved None ws stored = stuck
moved (Some m) ws stored = at (seen (onward (Some m) ws stored) (desliced (Some m)))

-- Words of whole layers; and, where the flag is set, of at least one.
abbrev pub Current : List ℕ → Bool → Type 0
Current ws b = Whole ws × (b ≡ true → 3 ≤ length ws)
