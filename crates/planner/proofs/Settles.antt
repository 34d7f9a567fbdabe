-- The settling's steps, and the address if flagged, lead the walker from the current type to the reported one; but for the
-- View that line (vii) dereferences without a step.
-- Assumes nothing.
use mathlib.Core.Path.{◌≡◌, refl, ap}
use mathlib.Core.Bool.{Bool, true, false, ◌&&◌, false≢true}
use mathlib.Core.Logic.{◌⊎◌, inl, inr}
use mathlib.Core.List.{List, [], ◌∷◌, ◌++◌}
use Prim.Native.Nat.{ℕ, zero, suc, ◌+◌, ◌-◌, ◌≤◌}
use native.Mathlib.Numerals.{add-one}
use native.Mathlib.Omega.{arith}
use lib.Dec.{eqb}
use lib.ListN.{length, drop, replicate, length-replicate}
use borrow.Author.Tests.{eqb-true, eq-eqb}
use Rattle.type_numbers.specs.Kind as kind
use Rattle.type_layers.specs.Layers.{Layer, layer, outer, inside}
use Rattle.type_layers.specs.Answer.{given}
use Rattle.type_checks.specs.Check.{good_layer}
use Rattle.type_parts.specs.Parts.{references}
use Rattle.type_size_and_depth.specs.Depth.{pointer_depth}
use Rattle.type_wellformed.specs.WellFormed.{inner, well_formed}
use Rattle.relation_equals.proofs.Theorems.{identical-equal}
use Rattle.type_layers.proofs.Decide.{both}
use Rattle.type_numbers.specs.StepKind as of-step
use Rattle.plan_steps.specs.Steps.{Step, step, good_step, good_steps}
use Rattle.plan_settling.specs.Line as line
use Rattle.plan_settling.specs.Settling.{Settled, settled, pointer, dereferenced, settle_otherwise, line_of, settle_by, settle}
use Rattle.plan_settling.proofs.Lines.{lines, seventh}
use Rattle.symbol_members.specs.Member.{Stored}
use Rattle.walker_rule.specs.Walker.{at, act, walker, arrives}
use Rattle.walker_rule.proofs.Where.{at-is}
use Rattle.planner.specs.Demand.{asked}
use Rattle.type_checks.proofs.Accepted.{good_layers}
use Rattle.planner.proofs.Sound.{Sound, inner_of}

-- a good layer of the kind Pointer is a Pointer
pub exact : (x : Layer) → good_layer x ≡ true → x.kind ≡ kind.pointer → x ≡ pointer
unfolding good_layer
exact x g e =
    let h : (eqb x.name 0 && eqb x.number 0) ≡ true = rw e at g in
    let b = both (eqb x.name 0) (eqb x.number 0) h in
    let whole : layer x.kind x.name x.number ≡ pointer = rw (e, eqb-true x.name 0 b.0, eqb-true x.number 0 b.1) in
    whole

abbrev autoderef : Step
autoderef = step of-step.autoderef 0 0 0

-- the kinds of an Inner that is no Pointer
no-reference : (x : Layer) (a : List Layer) → inner (x ∷ a) ≡ true → (eqb x.kind kind.slice_pointer ≡ false) × (eqb x.kind kind.view ≡ false)
unfolding inner
no-reference x a e = (by-slice-pointer (eqb x.kind kind.slice_pointer) refl, by-view (eqb x.kind kind.view) refl)
  where
    by-slice-pointer : (f : Bool) → eqb x.kind kind.slice_pointer ≡ f → f ≡ false
    by-slice-pointer true p = absurd (false≢true (rw (eqb-true x.kind kind.slice_pointer p) at e))
    by-slice-pointer false p = refl

    by-view : (f : Bool) → eqb x.kind kind.view ≡ f → f ≡ false
    by-view true p = absurd (false≢true (rw (eqb-true x.kind kind.view p) at e))
    by-view false p = refl

-- of a type that is no Pointer, SlicePointer or View no layer is taken off
flat : (c : List Layer) → eqb (outer c) kind.pointer ≡ false → eqb (outer c) kind.slice_pointer ≡ false → eqb (outer c) kind.view ≡ false →
    (pointer_depth c ≡ 0) × (references c ≡ 0)
unfolding outer pointer_depth references
flat [] p s v = (refl, refl)
flat (x ∷ a) p s v = (rw (p, s), rw (p, v))

pointer-inner : (x : Layer) (a : List Layer) → x.kind ≡ kind.pointer → inner (x ∷ a) ≡ true → inner a ≡ true
unfolding inner
pointer-inner x a e i = rw e at i

pointer-is-inner : (c : List Layer) → eqb (outer c) kind.pointer ≡ true → well_formed c ≡ true → inner c ≡ true
unfolding outer inner
pointer-is-inner [] e f = absurd (false≢true e)
pointer-is-inner (x ∷ a) e f = by_kind (eqb-true x.kind kind.pointer e)
  where
    by_kind : x.kind ≡ kind.pointer → inner (x ∷ a) ≡ true
    by_kind k = let i : inner a ≡ true = inner_of x a (rw k) f in rw (k, i)

view-flat : (c : List Layer) → eqb (outer c) kind.view ≡ true → pointer_depth c ≡ 0
unfolding outer pointer_depth
view-flat [] e = refl
view-flat (x ∷ a) e = rw (eqb-true x.kind kind.view e)

module _ (stored : ℕ → Stored) where
  module _ (x : Layer) (a : List Layer) (k : x.kind ≡ kind.pointer) (g : good_layer x ≡ true)
      (below : (m n : ℕ) → pointer_depth a ≡ m + n → walker stored (replicate m autoderef) a ≡ at (replicate n pointer ++ drop (references a) a)) where
    one-off : drop (references a + 1) (x ∷ a) ≡ drop (references a) a
    one-off = rw (add-one (references a))

    through : (m n : ℕ) → pointer_depth a + 1 ≡ m + n → walker stored (replicate m autoderef) (x ∷ a) ≡ at (replicate n pointer ++ drop (references a) a)
    unfolding walker act outer inside
    through zero zero e = absurd (omega arith)
    through zero (suc n) e = rw (exact x g k) (ap (λ (b : List Layer). at (pointer ∷ b)) (at-is a (replicate n pointer ++ drop (references a) a) (below 0 n (omega arith))))
    through (suc m) n e = rw k (below m n (omega arith))

  unwinds : (c : List Layer) → inner c ≡ true → good_layers c ≡ true → (m n : ℕ) → pointer_depth c ≡ m + n →
      walker stored (replicate m autoderef) c ≡ at (replicate n pointer ++ drop (references c) c)
  unfolding pointer_depth references good_layers walker inner
  unwinds [] i g m n e = absurd (false≢true i)
  unwinds (x ∷ a) i g m n e = by_kind (eqb x.kind kind.pointer) refl (λ p. unwinds a (pointer-inner x a (eqb-true _ _ p) i) (both (good_layer x) (good_layers a) g).1)
    where
      by_kind : (f : Bool) → eqb x.kind kind.pointer ≡ f →
          (eqb x.kind kind.pointer ≡ true → (m n : ℕ) → pointer_depth a ≡ m + n → walker stored (replicate m autoderef) a ≡ at (replicate n pointer ++ drop (references a) a)) →
          walker stored (replicate m autoderef) (x ∷ a) ≡ at (replicate n pointer ++ drop (references (x ∷ a)) (x ∷ a))
      by_kind true p below =
          let k = eqb-true x.kind kind.pointer p in
          let good = (both (good_layer x) (good_layers a) g).0 in
          rw (p, one-off x a k good (below p)) (through x a k good (below p) m n (rw p at e))
      by_kind false p below =
          let kinds = no-reference x a i in
          let level : 0 ≡ m + n = rw (p, kinds.0) at e in
          let none : m ≡ 0 = omega (arith, level) in
          let zero : n ≡ 0 = omega (arith, level) in
          rw (p, kinds.1, none, zero) refl

  -- the settling's steps, and the address if flagged, lead from the current type to the reported one
  abbrev Leads : List Layer → Settled → Type 0
  Leads c s = arrives stored s.steps s.address c ≡ at s.type

  -- the exception: at depth 0 a View, by line (vii) alone, and no step for it
  pub record Unstepped (c t : List Layer) (n : ℕ) (s : Settled) : Type 0 where
    pub level : n ≡ 0
    pub view : outer c ≡ kind.view
    pub last : line_of c t n ≡ line.vii
    pub is : s ≡ settled [] (drop (references c) c) false false

  module _ (c t : List Layer) (n : ℕ) (sound : Sound c) where
    -- line (vii), without a refusal and an address: a Pointer is unwound, a View is the exception, all else stays
    module _ (few : n ≤ pointer_depth c) where
      on-pointer : eqb (outer c) kind.pointer ≡ true → Leads c (dereferenced c n (pointer_depth c))
      unfolding arrives
      on-pointer e =
          let whole : pointer_depth c ≡ (pointer_depth c - n) + n = omega arith in
          rw (unwinds c (pointer-is-inner c e sound.formed) sound.passing.good (pointer_depth c - n) n whole) refl

      on-view : line_of c t n ≡ line.vii → eqb (outer c) kind.view ≡ true → Unstepped c t n (dereferenced c n (pointer_depth c))
      on-view last e =
          let none : pointer_depth c ≡ 0 = view-flat c e in
          let level : n ≡ 0 = omega (arith, none) in
          record { level = level; view = eqb-true (outer c) kind.view e; last = last; is = rw (none, level) refl }

      on-other : eqb (outer c) kind.pointer ≡ false → eqb (outer c) kind.slice_pointer ≡ false → eqb (outer c) kind.view ≡ false →
          Leads c (dereferenced c n (pointer_depth c))
      unfolding arrives walker
      on-other e f g =
          let kinds = flat c e f g in
          let level : n ≡ 0 = omega (arith, kinds.0) in
          rw (kinds.0, level, kinds.1) refl

      otherwise : line_of c t n ≡ line.vii → eqb (outer c) kind.slice_pointer ≡ false →
          Leads c (dereferenced c n (pointer_depth c)) ⊎ Unstepped c t n (dereferenced c n (pointer_depth c))
      otherwise last slice = by_kind (eqb (outer c) kind.pointer) (eqb (outer c) kind.view) refl refl
        where
          by_kind : (f h : Bool) → eqb (outer c) kind.pointer ≡ f → eqb (outer c) kind.view ≡ h →
              Leads c (dereferenced c n (pointer_depth c)) ⊎ Unstepped c t n (dereferenced c n (pointer_depth c))
          by_kind true h e k = inl (on-pointer e)
          by_kind false true e k = inr (on-view last k)
          by_kind false false e k = inl (on-other e slice k)

    pub settles : (s : Settled) → settle c t n ≡ given s → Leads c s ⊎ Unstepped c t n s
    unfolding arrives walker act
    settles s g =
        lines c t n (λ s. Leads c s ⊎ Unstepped c t n s) (λ e. inl refl) (λ e f. inl (rw (e, identical-equal (inside c) t f) refl)) (λ e. inl refl)
        (λ e f. inl refl) (λ e. inl refl)
        (λ is s h. seventh c n (λ s. Leads c s ⊎ Unstepped c t n s) (λ e. inl refl) (λ few slice. otherwise few is slice) s h) s g

    -- where the exception's conditions hold, no step is added
    pub must-hide : (s : Settled) → settle c t n ≡ given s → n ≡ 0 → outer c ≡ kind.view → line_of c t n ≡ line.vii → Unstepped c t n s
    unfolding settle settle_by
    must-hide s g level view is =
        let none : pointer_depth c ≡ 0 = view-flat c (eq-eqb (outer c) kind.view view) in
        let h : settle_otherwise c n (pointer_depth c) ≡ given s = rw is at g in
        seventh c n (λ s. Unstepped c t n s) (λ e. absurd (omega (arith, e, none, level)))
        (λ few slice. on-view few is (eq-eqb (outer c) kind.view view)) s h

-- the steps that a settling adds: none, an Autoview, or Autoderefs, no more than Pointers
module _ (c t : List Layer) (n : ℕ) (P : List Step → Type 0)
    (none : P []) (one : P (step of-step.autoview 0 0 0 ∷ [])) (some : (m : ℕ) → m ≤ pointer_depth c → P (replicate m autoderef)) where
  pub adds : (s : Settled) → settle c t n ≡ given s → P s.steps
  adds s g =
      lines c t n (λ s. P s.steps) (λ e. none) (λ e f. one) (λ e. none) (λ e f. none) (λ e. none)
      (λ is s h. seventh c n (λ s. P s.steps) (λ e. none) (λ few slice. some (pointer_depth c - n) (omega arith)) s h) s g

module _ (c t : List Layer) (n : ℕ) (s : Settled) (g : settle c t n ≡ given s) where
  -- the settling adds no element and no member step
  pub asks_nothing : asked s.steps ≡ []
  unfolding asked
  asks_nothing = adds c t n (λ ss. asked ss ≡ []) refl refl (λ m h. autos m) s g
    where
      autos : (m : ℕ) → asked (replicate m autoderef) ≡ []
      autos zero = refl
      autos (suc m) = autos m

  pub adds-good : good_steps s.steps ≡ true
  unfolding good_step good_steps
  adds-good = adds c t n (λ ss. good_steps ss ≡ true) refl refl (λ m h. autos m) s g
    where
      autos : (m : ℕ) → good_steps (replicate m autoderef) ≡ true
      autos zero = refl
      autos (suc m) = autos m

  pub adds-few : length s.steps ≤ 1 + pointer_depth c
  adds-few =
      adds c t n (λ ss. length ss ≤ 1 + pointer_depth c) (omega arith) (omega arith) (λ m h. rw (length-replicate m autoderef) (omega (arith, h))) s g
