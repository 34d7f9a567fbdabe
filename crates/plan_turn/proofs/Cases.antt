-- What holds of each turn on the kinds that lead to it holds of the turn that a round decides.
-- Assumes nothing.
use mathlib.Core.Path.{◌≡◌, refl}
use mathlib.Core.Bool.{Bool, true, false, cond, ◌&&◌, ◌||◌}
use mathlib.Core.Logic.{◌⊎◌, inl, inr, ⊎_elim}
use Prim.Native.Nat.{ℕ}
use lib.Dec.{eqb, leb}
use borrow.Author.Tests.{eqb-true}
use Rattle.type_numbers.specs.Kind as kind
use Rattle.type_layers.specs.Layers.{is_array, is_reference}
use Rattle.type_layers.proofs.Decide.{both}
use Rattle.type_numbers.specs.StepKind as of-step
use Rattle.type_numbers.specs.Mark as of-mark
use Rattle.plan_turn.specs.Turn.{Turn, Stuck, Auto, Element, Desliced, Member}
use Rattle.plan_turn.specs.Round.{auto, on_reference, on_element, on_member, turn}

-- a kind that one of two tests names
either : (k l m : ℕ) → (eqb k l || eqb k m) ≡ true → (k ≡ l) ⊎ (k ≡ m)
either k l m e = by-test (eqb k l) refl
  where
    by-test : (u : Bool) → eqb k l ≡ u → (k ≡ l) ⊎ (k ≡ m)
    by-test true p = inl (eqb-true k l p)
    by-test false p = inr (eqb-true k m (rw p at e))

-- a test of two kinds
tells : (test : ℕ → Bool) (b : Bool) (k l m : ℕ) → test l ≡ b → test m ≡ b → (eqb k l || eqb k m) ≡ true → test k ≡ b
tells test b k l m p q e = ⊎_elim (λ (f : k ≡ l). rw f p) (λ (f : k ≡ m). rw f q) (either k l m e)

module _ (k l asked mark : ℕ) (P : Turn → Type 0)
    (stuck : P Stuck)
    (autoderef : k ≡ kind.pointer → P (Auto of-step.autoderef))
    (autoview : k ≡ kind.view → P (Auto of-step.autoview))
    (through : is_array k ≡ false → is_reference k ≡ true → l ≡ kind.arraylike → asked ≡ of-step.element → P (Element mark 2))
    (element : (m : ℕ) → leb m 2 ≡ true → is_array k ≡ true → asked ≡ of-step.element → P (Element m 1))
    (slice : k ≡ kind.slice → asked ≡ of-step.element → P (Desliced of-mark.by_view))
    (slice-pointer : k ≡ kind.slice_pointer → asked ≡ of-step.element → P (Desliced of-mark.by_pointer))
    (member : (eqb k kind.struct || eqb k kind.word) ≡ true → asked ≡ of-step.member → P Member) where
  on-reference : is_reference k ≡ true → P (on_reference k l asked mark)
  on-reference e = by-inside (eqb asked of-step.element && eqb l kind.arraylike) refl
    where
      by-inside : (f : Bool) → (eqb asked of-step.element && eqb l kind.arraylike) ≡ f → P (cond f (Element mark 2) (Auto (auto k)))
      by-inside true f = let b = both _ _ f in through (tells is_array false k kind.pointer kind.view refl refl e) e (eqb-true _ _ b.1) (eqb-true _ _ b.0)
      by-inside false f =
          ⊎_elim (λ (p : k ≡ kind.pointer). rw p (autoderef p)) (λ (p : k ≡ kind.view). rw p (autoview p)) (either k kind.pointer kind.view e)

  module _ (e : asked ≡ of-step.element) where
    by-slice-pointer : (f : Bool) → eqb k kind.slice_pointer ≡ f → P (cond f (Desliced of-mark.by_pointer) Stuck)
    by-slice-pointer true f = slice-pointer (eqb-true _ _ f) e
    by-slice-pointer false f = stuck

    by-slice : (f : Bool) → eqb k kind.slice ≡ f → P (cond f (Desliced of-mark.by_view) (cond (eqb k kind.slice_pointer) (Desliced of-mark.by_pointer) Stuck))
    by-slice true f = slice (eqb-true _ _ f) e
    by-slice false f = by-slice-pointer (eqb k kind.slice_pointer) refl

    by-endless : (f : Bool) → (eqb k kind.endless_array || eqb k kind.arraylike) ≡ f →
        P (cond f (Element of-mark.yes 1) (cond (eqb k kind.slice) (Desliced of-mark.by_view) (cond (eqb k kind.slice_pointer) (Desliced of-mark.by_pointer) Stuck)))
    by-endless true f = element of-mark.yes refl (tells is_array true k kind.endless_array kind.arraylike refl refl f) e
    by-endless false f = by-slice (eqb k kind.slice) refl

    by_length : (f : Bool) → (eqb k kind.array || eqb k kind.array_with_named_length) ≡ f →
        P
        (cond f (Element of-mark.no 1)
        (cond (eqb k kind.endless_array || eqb k kind.arraylike) (Element of-mark.yes 1)
        (cond (eqb k kind.slice) (Desliced of-mark.by_view) (cond (eqb k kind.slice_pointer) (Desliced of-mark.by_pointer) Stuck))))
    by_length true f = element of-mark.no refl (tells is_array true k kind.array kind.array_with_named_length refl refl f) e
    by_length false f = by-endless (eqb k kind.endless_array || eqb k kind.arraylike) refl

  by-member : (f g : Bool) → eqb asked of-step.member ≡ f → (eqb k kind.struct || eqb k kind.word) ≡ g → P (cond f (cond g Member Stuck) Stuck)
  by-member true true e h = member h (eqb-true _ _ e)
  by-member true false e h = stuck
  by-member false g e h = stuck

  by-element : (f : Bool) → eqb asked of-step.element ≡ f → P (cond f (on_element k) (cond (eqb asked of-step.member) (on_member k) Stuck))
  by-element true e = by_length (eqb-true _ _ e) (eqb k kind.array || eqb k kind.array_with_named_length) refl
  by-element false e = by-member (eqb asked of-step.member) (eqb k kind.struct || eqb k kind.word) refl refl

  pub cases : P (turn k l asked mark)
  unfolding turn
  cases = by-reference (is_reference k) refl
    where
      by-reference : (f : Bool) → is_reference k ≡ f →
          P (cond f (on_reference k l asked mark) (cond (eqb asked of-step.element) (on_element k) (cond (eqb asked of-step.member) (on_member k) Stuck)))
      by-reference true e = on-reference e
      by-reference false e = by-element (eqb asked of-step.element) refl
