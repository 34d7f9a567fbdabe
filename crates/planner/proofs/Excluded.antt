-- What the third demand, and what is said of the reported type, rule out: each plan here is one that a wrong planner would
-- give, with a theorem that it does not meet the one or the other. Each field of `Demand`, of the exception and of `Hidden`
-- is what refutes some plan, so that none can be left out without this file failing.
-- Assumes nothing.
use mathlib.Core.Path.{◌≡◌, refl, sym, ap, ◌∙◌}
use mathlib.Core.Bool.{Bool, true, false, cond, true≢false, false≢true}
use mathlib.Core.Logic.{⊎_elim}
use mathlib.Core.List.{List, [], ◌∷◌, ◌++◌, append-nil}
use Prim.Native.Nat.{ℕ, ◌+◌, ◌≤◌}
use native.Mathlib.Omega.{arith}
use lib.Dec.{eqb, leb}
use lib.ListN.{length, drop, length-drop}
use borrow.Author.Tests.{eqb-true, leb-true}
use Rattle.type_numbers.specs.Kind as kind
use Rattle.type_layers.specs.Layers.{Layer, layer, outer, inside}
use Rattle.type_layers.specs.Answer.{given}
use Rattle.type_parts.specs.Parts.{references}
use Rattle.type_size_and_depth.specs.Depth.{pointer_depth}
use Rattle.relation_equals.specs.Equals.{identical, plain, equals}
use Rattle.relation_coerces.specs.Coerces.{coerces, address_coerces}
use Rattle.type_numbers.specs.StepKind as of-step
use Rattle.type_numbers.specs.Mark as of-mark
use Rattle.plan_steps.specs.Steps.{Step, step, good_step, good_steps}
use Rattle.plan_settling.specs.Line as line
use Rattle.plan_settling.specs.Line.{Line}
use Rattle.plan_settling.specs.Settling.{Settled, settle_otherwise, line_of}
use Rattle.plan_settling.proofs.Lines.{seventh}
use Rattle.symbol_members.specs.Member.{Stored, typed, absent}
use Rattle.walker_rule.specs.Walker.{Where, at, stuck, act, walker, arrives}
use Rattle.walker_rule.proofs.Where.{type_at}
use Rattle.plan_report.specs.Plan.{Plan}
use Rattle.planner.specs.Demand.{unmarked, asked, rounds, Hidden, Demand}
use Rattle.planner.specs.Reported.{Reported}
use Rattle.planner.proofs.Rounds.{asked-append}
use Rattle.planner.proofs.Table.{leaf, of, int32, array3, asked-element}

-- no table
abbrev none : ℕ → Stored
none id = absent

abbrev plan : List Step → ℕ → List Layer → Bool → Plan
plan ss k t a = record { steps = ss; taken = k; type = t; address = a; coerced = false }

abbrev array : ℕ → List Layer → List Layer
array n t = layer kind.array 0 n ∷ t

abbrev struct1 : Layer
struct1 = layer kind.struct 1 0

abbrev element : ℕ → ℕ → Step
element handle number = step of-step.element handle of-mark.no number

abbrev autoderef : Step
autoderef = step of-step.autoderef 0 0 0

abbrev first_handle : List Step → ℕ
first_handle [] = 0
first_handle (s ∷ ss) = s.handle

abbrev first_mark : List Step → ℕ
first_mark [] = 0
first_mark (s ∷ ss) = s.mark

abbrev is_last : Line → Bool
is_last line.i = false
is_last line.ii = false
is_last line.iii = false
is_last line.iv = false
is_last line.v = false
is_last line.vi = false
is_last line.vii = true

none_before : (ss us : List Step) → [] ≡ ss ++ us → ss ≡ []
none_before [] us e = refl
none_before (s ∷ ss) us e = absurd (omega (arith, ap length e))

-- Array 3 of Int32, one Element, one round: a plan without steps that took none of one and reports the Array
pub dropped : Demand none array3 (asked-element 7 ∷ []) int32 0 1 (plan [] 0 array3 false) → ⊥
unfolding rounds
dropped d =
    ⊎_elim (λ (e : 0 ≡ 1). absurd (omega (arith, e)))
    (λ (h : rounds d.of_rounds ≡ 1). let e : 0 ≡ 1 = rw (none_before d.of_rounds d.further d.parts) at h in absurd (omega (arith, e)))
    d.all

-- the same question: the right step, and a count that is made up
pub made_up : Demand none array3 (asked-element 7 ∷ []) int32 0 1 (plan (element 7 0 ∷ []) 7 int32 false) → ⊥
made_up d = let h : 7 ≤ 1 = d.few in absurd (omega (arith, h))

-- the same question: the Element of another argument
pub other-element : Demand none array3 (asked-element 7 ∷ []) int32 0 1 (plan (element 8 0 ∷ []) 1 int32 false) → ⊥
unfolding asked
other-element d = absurd (omega (arith, ap first_handle d.order))

-- Struct 1, the Member 5 without an offset: the same Member with an offset that nobody asked for
pub other_offset : Demand (λ id. typed int32) (struct1 ∷ []) (step of-step.member 5 0 0 ∷ []) int32 0 1 (plan (step of-step.member 5 1 8 ∷ []) 1 int32 false) → ⊥
unfolding asked
other_offset d = absurd (omega (arith, ap first_mark d.order))

-- an asked step takes a round, so that a plan has no more asked steps than there are rounds
asked-rounds : (ss : List Step) → length (asked ss) ≤ rounds ss
unfolding asked rounds
asked-rounds [] = omega arith
asked-rounds (s ∷ ss) = by_kind (leb s.kind of-step.member) (eqb s.kind of-step.autodeslice) refl refl (asked-rounds ss)
  where
    by_kind : (f g : Bool) → leb s.kind of-step.member ≡ f → eqb s.kind of-step.autodeslice ≡ g → length (asked ss) ≤ rounds ss →
        length (cond f (unmarked s ∷ asked ss) (asked ss)) ≤ cond g (rounds ss) (rounds ss + 1)
    by_kind true true e h i = absurd (omega (arith, leb-true s.kind 1 e, eqb-true s.kind 2 h))
    by_kind true false e h i = omega (arith, i)
    by_kind false true e h i = i
    by_kind false false e h i = omega (arith, i)

in-time : (stored : ℕ → Stored) (known : List Layer) (q : List Step) (target : List Layer) (depth limit : ℕ) (p : Plan) →
    Demand stored known q target depth limit p → length (asked p.steps) ≤ limit
in-time stored known q target depth limit p d =
    let e : asked p.steps ≡ asked d.of_rounds = ap asked d.parts ∙ asked-append d.of_rounds d.further ∙ rw (d.unasked, append-nil) refl in
    omega (arith, ap length e, asked-rounds d.of_rounds, d.within)

-- Array 3 of Array 3 of Array 3 of Int32, three Elements, one round: a plan that takes two, and drops the third for want of
-- rounds
pub overrun : Demand none (array 3 (array 3 array3)) (asked-element 7 ∷ asked-element 8 ∷ asked-element 9 ∷ []) int32 0 1
    (plan (element 7 0 ∷ element 8 0 ∷ []) 2 array3 false) → ⊥
unfolding asked
overrun d = let h : 2 ≤ 1 = in-time _ _ _ _ _ _ _ d in absurd (omega (arith, h))

-- the same of two Elements: a plan that takes both in one round
pub limit-ignored : Demand none (array 3 array3) (asked-element 7 ∷ asked-element 8 ∷ []) int32 0 1 (plan (element 7 0 ∷ element 8 0 ∷ []) 2 int32 false) → ⊥
unfolding asked
limit-ignored d = let h : 2 ≤ 1 = in-time _ _ _ _ _ _ _ d in absurd (omega (arith, h))

-- the first question again: an Element whose unused number is not 0
pub unused-number : Demand none array3 (asked-element 7 ∷ []) int32 0 1 (plan (element 7 5 ∷ []) 1 int32 false) → ⊥
unfolding good_step good_steps
unused-number d = false≢true d.good

-- Pointer to Pointer to Int32, target Int32: a planner that works its first step and then copies the reported type
pub first-step-then-copied : Demand none (of kind.pointer (of kind.pointer int32)) [] int32 0 64 (plan (autoderef ∷ []) 0 int32 false) → ⊥
unfolding walker arrives act outer inside
first-step-then-copied d =
    ⊎_elim (λ (e : at (of kind.pointer int32) ≡ at int32). absurd (omega (arith, ap (λ (w : Where). length (type_at w)) e)))
    (λ h. absurd (omega (arith, ap (λ (w : Where). outer (type_at w)) h.holds.ends, h.holds.view))) d.there

-- where the walker is at one type, it is not at another of another length
apart : (a b : List Layer) → (length a ≡ length b → ⊥) → at a ≡ at b → ⊥
apart a b h e = h (ap (λ (w : Where). length (type_at w)) e)

-- Int32: a step that cannot be taken
pub cannot-be-taken : Demand none int32 [] int32 0 64 (plan (autoderef ∷ []) 0 int32 false) → ⊥
unfolding walker arrives act outer
cannot-be-taken d =
    ⊎_elim (λ (e : stuck ≡ at int32). absurd (omega (arith, ap (λ (w : Where). length (type_at w)) e)))
    (λ h. absurd (omega (arith, ap (λ (w : Where). outer (type_at w)) h.holds.ends, h.holds.view))) d.there

-- View of Int32, target Int32: a plan that stops one step early; line (ii) applies, so it is no exception
pub one-step-early : Demand none (of kind.view int32) [] int32 0 64 (plan [] 0 int32 false) → ⊥
unfolding walker arrives line_of outer inside pointer_depth identical
one-step-early d =
    ⊎_elim (apart (of kind.view int32) int32 (λ e. absurd (omega (arith, e))))
    (λ h. false≢true (ap (λ (w : Where). is_last (line_of (type_at w) int32 0)) h.holds.ends ∙ ap is_last h.holds.last)) d.there

-- the same at depth 1, where there is no exception
pub early-at-depth-1 : Demand none (of kind.view int32) [] (of kind.pointer int32) 1 64 (plan [] 0 int32 false) → ⊥
unfolding walker arrives
early-at-depth-1 d =
    ⊎_elim (apart (of kind.view int32) int32 (λ e. absurd (omega (arith, e)))) (λ h. absurd (omega (arith, h.holds.level))) d.there

-- View of Pointer to Int32, target Int32, of which the exception holds: a plan that reports the Pointer
pub half-dereferenced : Demand none (of kind.view (of kind.pointer int32)) [] int32 0 64 (plan [] 0 (of kind.pointer int32) false) → ⊥
unfolding walker arrives references
half-dereferenced d =
    ⊎_elim (apart (of kind.view (of kind.pointer int32)) (of kind.pointer int32) (λ e. absurd (omega (arith, e))))
    (λ h.
    let e : 2 ≡ 1 = ap length h.type ∙ ap (λ (w : Where). length (drop (references (type_at w)) (type_at w))) (sym h.holds.ends) in
    absurd (omega (arith, e))) d.there

-- the same question: a plan that reports the View itself
pub view-as-it-is : Demand none (of kind.view (of kind.pointer int32)) [] int32 0 64 (plan [] 0 (of kind.view (of kind.pointer int32)) false) → ⊥
unfolding walker references line_of outer inside pointer_depth identical coerces address_coerces equals plain
view-as-it-is d =
    let known : List Layer = of kind.view (of kind.pointer int32) in
    let w = none_before d.of_rounds d.further d.parts in
    let h = d.except (record { c = known; ends = rw w refl; level = refl; view = refl; last = refl }) in
    absurd (omega (arith, ap length h.type ∙ ap (λ (w : Where). length (drop (references (type_at w)) (type_at w))) (sym h.holds.ends)))

-- the same question: the right type, and an address that nobody takes
pub address-in-name : Demand none (of kind.view (of kind.pointer int32)) [] int32 0 64 (plan [] 0 int32 true) → ⊥
unfolding walker arrives
address-in-name d =
    ⊎_elim (apart (of kind.pointer (of kind.view (of kind.pointer int32))) int32 (λ e. absurd (omega (arith, e))))
    (λ h. true≢false h.plain) d.there

-- what line (vii) gives is not coerced
last-not-coerced : (c : List Layer) (n : ℕ) (s : Settled) → settle_otherwise c n (pointer_depth c) ≡ given s → s.coerced ≡ false
last-not-coerced c n = seventh c n (λ s. s.coerced ≡ false) (λ e. refl) (λ few slice. refl)

-- Int32 for the target Int64: a plan that says that it is coerced
pub coerced-in-name : Reported none int32 (leaf kind.int64) 0 (record { steps = []; taken = 0; type = int32; address = false; coerced = true }) → ⊥
unfolding walker coerces address_coerces outer
coerced-in-name r =
    ⊎_elim (λ h. true≢false h.1)
    (λ r.
    ⊎_elim
    (λ h.
    ⊎_elim (λ i. false≢true (ap (λ (w : Where). coerces (type_at w) (leaf kind.int64)) h.ends ∙ i.0))
    (λ i. false≢true (ap (λ (w : Where). address_coerces (type_at w) (leaf kind.int64)) h.ends ∙ i.0)) h.into)
    (λ h. true≢false (last-not-coerced h.c 0 _ h.gives)) r) r

-- Array 3 of Int32 for the target Slice of Int32, which is coerced: a plan that does not say so
pub coercion-untold : Reported none array3 (of kind.slice int32) 0 (plan [] 0 array3 false) → ⊥
unfolding walker line_of outer inside pointer_depth identical coerces equals plain
coercion-untold r =
    ⊎_elim (λ h. absurd (omega (arith, ap outer h.0)))
    (λ r.
    ⊎_elim (λ h. false≢true h.coerced)
    (λ h.
    let ends : at array3 ≡ at h.c = rw (none_before h.of_rounds h.further h.steps) at h.ends in
    false≢true (ap (λ (w : Where). is_last (line_of (type_at w) (of kind.slice int32) 0)) ends ∙ ap is_last h.applies)) r) r

-- the exception shows: of such a plan the walker does not arrive at the reported type
module _ (stored : ℕ → Stored) (known target : List Layer) (depth : ℕ) (p : Plan) where
  shorter : (c : List Layer) → outer c ≡ kind.view → length (drop (references c) c) ≡ length c → ⊥
  unfolding outer references
  shorter [] v e = absurd (omega (arith, v))
  shorter (x ∷ a) v e =
      let r : references (x ∷ a) ≡ references a + 1 = rw v in
      absurd (omega (arith, r, e, length-drop (references (x ∷ a)) (x ∷ a)))

  pub exception-shows : Hidden stored known target depth p → arrives stored p.steps p.address known ≡ at p.type → ⊥
  unfolding arrives
  exception-shows h e =
      let there : at h.holds.c ≡ at p.type = rw (h.holds.ends, h.plain) at e in
      shorter h.holds.c h.holds.view (ap length (sym h.type) ∙ ap (λ (w : Where). length (type_at w)) (sym there))
