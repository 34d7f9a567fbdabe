-- What one step does, by what the code decided.
-- Assumes nothing.
use mathlib.Core.Path.{◌≡◌, refl, sym, ap, ◌∙◌}
use mathlib.Core.Bool.{Bool, true, false, cond, ◌&&◌, ◌||◌, and-true, and-false, false≢true}
use mathlib.Core.List.{List, ◌∷◌}
use Prim.Native.Nat.{ℕ, ◌≤◌, ◌<◌}
use lib.Dec.{eqb, leb}
use lib.ListN.{length, drop}
use borrow.Author.Tests.{eqb-true, leb-true, leb-false}
use Rattle.std.specs.Prelude.{Option, Some, None}
use Rattle.type_numbers.specs.Kind as kind
use Rattle.type_layers.specs.Layers.{Layer, layers, outer, inside, is_array, is_reference}
use Rattle.type_layers.specs.AsCoded.{Whole}
use Rattle.type_layers.proofs.Words.{inner-layers, inner-whole, none, more}
use Rattle.type_numbers.specs.Mark as of-mark
use Rattle.plan_steps.specs.Steps.{Step}
use Rattle.symbol_members.specs.Member.{Stored}
use Rattle.walker_rule.specs.Walker.{Where, at, stuck, to_stored, element, member, act}
use Rattle.symbol_members.specs.Members.{of_layers}
use Rattle.walker_step.specs.AsCoded.{on_element, on_member, move_of, seen, onward, desliced, moved, Current}
use Rattle.walker_step.specs.declared.step_move.Move.{Move}
use Rattle.walker_step.specs.declared.step_move.Move.TheVariants.{Inside, TwoInside, Deslice, Member}

-- the inner type is that of the words
pub seen-inside : (ws : List ℕ) (b : Bool) → inside (seen ws b) ≡ layers (drop 3 ws)
unfolding seen inside
seen-inside ws true = sym (inner-layers ws)
seen-inside ws false = sym (inner-layers ws)

-- where the walker is, by the code's decision
module _ (ws m : List ℕ) (b : Bool) where
  abbrev t : List Layer
  t = seen ws b

  abbrev l : ℕ
  l = outer (layers (drop 3 ws))

  by-test : (f : Bool) (x y : Where) (p q : Option Move) → (f ≡ true → x ≡ moved p ws m) → y ≡ moved q ws m → cond f x y ≡ moved (cond f p q) ws m
  by-test true x y p q g h = g refl
  by-test false x y p q g h = h

  on-stuck : stuck ≡ moved None ws m
  unfolding moved
  on-stuck = refl

  on-inside : at (inside t) ≡ moved (Some Inside) ws m
  unfolding moved onward desliced seen
  on-inside = ap at (seen-inside ws b)

  on-two-inside : at (inside (inside t)) ≡ moved (Some TwoInside) ws m
  unfolding moved onward desliced seen
  on-two-inside = ap (λ (u : List Layer). at (inside u)) (seen-inside ws b) ∙ ap at (sym (inner-layers (drop 3 ws)))

  on-deslice : at (record { kind = kind.arraylike; name = 0; number = 0 } ∷ inside t) ≡ moved (Some Deslice) ws m
  unfolding moved onward desliced seen
  on-deslice = ap (λ (u : List Layer). at (record { kind = kind.arraylike; name = 0; number = 0 } ∷ u)) (seen-inside ws b ∙ inner-layers ws)

  on-element : element t ≡ moved (on_element (outer t) l) ws m
  on-element =
      by-test (is_array (outer t)) _ _ _ _ (λ e. on-inside)
      (ap (λ (u : List Layer). cond (is_reference (outer t) && eqb (outer u) kind.arraylike) (at (inside (inside t))) stuck) (seen-inside ws b)
      ∙ by-test (is_reference (outer t) && eqb l kind.arraylike) _ _ _ _ (λ e. on-two-inside) on-stuck)

  on-member : member (of_layers (layers m)) t ≡ moved (on_member (outer t) (leb 3 (length m))) ws m
  unfolding moved onward desliced seen
  on-member = by-words (leb 3 (length m)) refl
    where
      k : Bool
      k = eqb (outer t) kind.struct || eqb (outer t) kind.word

      here : 3 ≤ length m → to_stored (of_layers (layers m)) ≡ at (layers m)
      here h = rw (more m h)

      on_typed : at (layers m) ≡ moved (Some Member) ws m
      on_typed = refl

      by-words : (f : Bool) → leb 3 (length m) ≡ f → cond k (to_stored (of_layers (layers m))) stuck ≡ moved (cond (k && f) (Some Member) None) ws m
      by-words true e = rw (and-true k) (by-test k _ _ _ _ (λ _. here (leb-true 3 (length m) e) ∙ on_typed) on-stuck)
      by-words false e = rw (and-false k, none m (leb-false 3 (length m) e)) (absent k ∙ on-stuck)
        where
          absent : (f : Bool) → cond f stuck stuck ≡ stuck
          absent true = refl
          absent false = refl

  pub acts : (stored : ℕ → Stored) (s : Step) → (s.kind ≡ 1 → stored s.handle ≡ of_layers (layers m)) →
      act stored s t ≡ moved (move_of s.kind s.mark (outer t) l (leb 3 (length m))) ws m
  unfolding act move_of
  acts stored s is =
      by-test (eqb s.kind 0) _ _ _ _ (λ e. on-element)
      (by-test (eqb s.kind 1) _ _ _ _ (λ e. ap (λ (x : Stored). member x t) (is (eqb-true s.kind 1 e)) ∙ on-member)
      (by-test (eqb s.kind 2) _ _ _ _ (λ e. by-test (eqb (outer t) kind.slice && eqb s.mark of-mark.by_view || eqb (outer t) kind.slice_pointer && eqb s.mark of-mark.by_pointer) _ _ _ _ (λ _. on-deslice) on-stuck)
      (by-test (eqb s.kind 3) _ _ _ _ (λ e. by-test (eqb (outer t) kind.pointer) _ _ _ _ (λ _. on-inside) on-stuck)
      (by-test (eqb s.kind 4) _ _ _ _ (λ e. by-test (eqb (outer t) kind.view) _ _ _ _ (λ _. on-inside) on-stuck) on-stuck))))

-- only a slice is desliced
abbrev slices : ℕ → ℕ → Bool
slices k mark = eqb k kind.slice && eqb mark of-mark.by_view || eqb k kind.slice_pointer && eqb mark of-mark.by_pointer

by-outcome : {Q : Type 0} (f : Bool) (x y : Option Move) → (f ≡ true → x ≡ Some Deslice → Q) → (y ≡ Some Deslice → Q) → cond f x y ≡ Some Deslice → Q
by-outcome true x y g h e = g refl e
by-outcome false x y g h e = h e

deslices : (s mark k l : ℕ) (there : Bool) → move_of s mark k l there ≡ Some Deslice → slices k mark ≡ true
unfolding move_of
deslices s mark k l there =
    by-outcome (eqb s 0) _ _ (λ _. by-outcome (is_array k) _ _ (λ _ e. cc) (by-outcome (is_reference k && eqb l kind.arraylike) _ _ (λ _ e. cc) (λ e. cc)))
    (by-outcome (eqb s 1) _ _ (λ _. by-outcome ((eqb k kind.struct || eqb k kind.word) && there) _ _ (λ _ e. cc) (λ e. cc))
    (by-outcome (eqb s 2) _ _ (λ _. by-outcome (slices k mark) _ _ (λ f e. f) (λ e. cc))
    (by-outcome (eqb s 3) _ _ (λ _. by-outcome (eqb k kind.pointer) _ _ (λ _ e. cc) (λ e. cc))
    (by-outcome (eqb s 4) _ _ (λ _. by-outcome (eqb k kind.view) _ _ (λ _ e. cc) (λ e. cc)) (λ e. cc)))))

no-slice : (ws : List ℕ) (b : Bool) (mark : ℕ) → length ws < 3 → slices (outer (seen ws b)) mark ≡ false
unfolding seen outer
no-slice ws true mark h = refl
no-slice ws false mark h = rw (none ws h)

-- whole layers stay whole
pub moves-on : (ws m : List ℕ) (b : Bool) (s mark l : ℕ) (there : Bool) (x : Option Move) → x ≡ move_of s mark (outer (seen ws b)) l there →
    Whole ws → Whole m → Current (onward x ws m) (desliced x)
unfolding onward desliced
moves-on ws m b s mark l there None e w v = (w, λ f. absurd (false≢true f))
moves-on ws m b s mark l there (Some Inside) e w v = (inner-whole ws w, λ f. absurd (false≢true f))
moves-on ws m b s mark l there (Some TwoInside) e w v = (inner-whole (drop 3 ws) (inner-whole ws w), λ f. absurd (false≢true f))
moves-on ws m b s mark l there (Some Member) e w v = (v, λ f. absurd (false≢true f))
moves-on ws m b s mark l there (Some Deslice) e w v = (w, λ f. by_length (leb 3 (length ws)) refl)
  where
    by_length : (f : Bool) → leb 3 (length ws) ≡ f → 3 ≤ length ws
    by_length true f = leb-true 3 (length ws) f
    by_length false f =
        let slice : slices (outer (seen ws b)) mark ≡ true = deslices s mark (outer (seen ws b)) l there (sym e) in
        absurd (false≢true (sym (no-slice ws b mark (leb-false 3 (length ws) f)) ∙ slice))
