-- "The walker". It knows what one step does, and nothing of rounds, targets or settling.
use Rattle.std.specs.Prelude.{Bool, cond, ◌&&◌, ◌||◌, List, [], ◌∷◌, ℕ, eqb}
use Rattle.type_numbers.specs.Kind as kind
use Rattle.type_layers.specs.Layers.{Layer, layer, outer, inside, is_array, is_reference}
use Rattle.symbol_members.specs.Member.{Stored, typed, absent}
use Rattle.type_numbers.specs.StepKind as of-step
use Rattle.type_numbers.specs.Mark as of-mark
use Rattle.plan_steps.specs.Steps.{Step}

-- Where the walker is: at a type; or it sticks.
pub data Where : Type 0 where
  at : List Layer → Where
  stuck : Where

-- "Autoderef takes off a Pointer"
abbrev pub autoderef : List Layer → Where
autoderef t = cond (eqb (outer t) kind.pointer) (at (inside t)) stuck

-- "Autoview a View"
abbrev pub autoview : List Layer → Where
autoview t = cond (eqb (outer t) kind.view) (at (inside t)) stuck

-- "Autodeslice turns a Slice (mark 0) or SlicePointer (mark 1) into Arraylike"
abbrev pub autodeslice : ℕ → List Layer → Where
autodeslice m t =
    cond (eqb (outer t) kind.slice && eqb m of-mark.by_view || eqb (outer t) kind.slice_pointer && eqb m of-mark.by_pointer)
    (at (layer kind.arraylike 0 0 ∷ inside t)) stuck

-- "Element goes from 14, 15, 18, 19, or a Pointer to or View of 19, to the element"
abbrev pub element : List Layer → Where
element t =
    cond (is_array (outer t)) (at (inside t))
    (cond (is_reference (outer t) && eqb (outer (inside t)) kind.arraylike) (at (inside (inside t)))
    stuck)

-- "Member from Struct or Word to the table's type"
abbrev pub to_stored : Stored → Where
to_stored (typed t) = at t
to_stored absent = stuck

abbrev pub member : Stored → List Layer → Where
member m t = cond (eqb (outer t) kind.struct || eqb (outer t) kind.word) (to_stored m) stuck

module _ (stored : ℕ → Stored) where
  -- "Elsewhere it sticks."
  unfoldable pub act : Step → List Layer → Where
  act s t =
      cond (eqb s.kind of-step.element) (element t)
      (cond (eqb s.kind of-step.member) (member (stored s.handle) t)
      (cond (eqb s.kind of-step.autodeslice) (autodeslice s.mark t)
      (cond (eqb s.kind of-step.autoderef) (autoderef t)
      (cond (eqb s.kind of-step.autoview) (autoview t)
      stuck))))

  abbrev pub then : Where → (List Layer → Where) → Where
  then (at t) f = f t
  then stuck f = stuck

  -- It takes the steps, one after the other.
  unfoldable pub walker : List Step → List Layer → Where
  walker [] t = at t
  walker (s ∷ ss) t = then (act s t) (walker ss)

  -- "then the address if flagged"
  unfoldable pub arrives : List Step → Bool → List Layer → Where
  arrives ss address t = then (walker ss t) (λ u. at (cond address (layer kind.pointer 0 0 ∷ u) u))
