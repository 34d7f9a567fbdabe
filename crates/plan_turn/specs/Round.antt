-- One round, by the kinds of the current type's outer two layers and the asked step.
use Rattle.std.specs.Prelude.{cond, ◌&&◌, ◌||◌, ℕ, eqb}
use Rattle.type_numbers.specs.Kind as kind
use Rattle.type_layers.specs.Layers.{is_reference}
use Rattle.type_numbers.specs.StepKind as of-step
use Rattle.type_numbers.specs.Mark as of-mark
use Rattle.plan_turn.specs.Turn.{Turn, Stuck, Auto, Element, Desliced, Member}

-- "Any other Pointer: Autoderef; View: Autoview"
abbrev pub auto : ℕ → ℕ
auto k = cond (eqb k kind.pointer) of-step.autoderef of-step.autoview

-- "Element on Pointer to or View of Arraylike: taken with its mark, to the element. Any other Pointer: Autoderef; View:
-- Autoview; nothing taken."
abbrev pub on_reference : ℕ → ℕ → ℕ → ℕ → Turn
on_reference k l asked mark =
    cond (eqb asked of-step.element && eqb l kind.arraylike) (Element mark 2) (Auto (auto k))

-- "Element on kinds 14, 15: mark no. On 18, 19: mark yes. On Slice, SlicePointer: Autodeslice by view, by pointer, then
-- Element marked no." "Else 8."
abbrev pub on_element : ℕ → Turn
on_element k =
    cond (eqb k kind.array || eqb k kind.array_with_named_length) (Element of-mark.no 1)
    (cond (eqb k kind.endless_array || eqb k kind.arraylike) (Element of-mark.yes 1)
    (cond (eqb k kind.slice) (Desliced of-mark.by_view)
    (cond (eqb k kind.slice_pointer) (Desliced of-mark.by_pointer)
    Stuck)))

-- "Member on Struct or Word: the table's type. Else 8."
abbrev pub on_member : ℕ → Turn
on_member k = cond (eqb k kind.struct || eqb k kind.word) Member Stuck

-- k is the outer kind, l the kind inside.
unfoldable pub turn : ℕ → ℕ → ℕ → ℕ → Turn
turn k l asked mark =
    cond (is_reference k) (on_reference k l asked mark)
    (cond (eqb asked of-step.element) (on_element k)
    (cond (eqb asked of-step.member) (on_member k)
    Stuck))
