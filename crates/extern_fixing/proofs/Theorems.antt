-- What follows from the rules of extern fixing.
-- Assumes nothing.
use mathlib.Core.Path.{◌≡◌, refl, sym, ◌∙◌}
use mathlib.Core.Bool.{Bool, true, false, cond, ◌&&◌, ◌||◌, or-false, false≢true}
use mathlib.Core.List.{List, [], ◌∷◌}
use Prim.Native.Nat.{ℕ, suc, ◌+◌, ◌/◌}
use native.Mathlib.Omega.{arith}
use lib.Dec.{eqb, ltb}
use lib.ListN.{length}
use borrow.Author.Tests.{eqb-true}
use Rattle.type_numbers.specs.Kind as kind
use Rattle.type_layers.specs.Layers.{Layer, layer, layers, outer, inside, is_reference, holds_inner, spelled}
use Rattle.type_layers.specs.Answer.{Answer, given, nothing, refused, next}
use Rattle.type_layers.proofs.Decide.{both}
use Rattle.type_checks.specs.Check.{Place, at, nowhere, bad_count, bad_layer, misplaced, check_of, unless}
use Rattle.type_checks.proofs.Accepted.{placed-inside}
use Rattle.type_wellformed.specs.WellFormed.{well_formed, inner, element}
use Rattle.type_wellformed.proofs.Fits.{one, or, references}
use Rattle.type_numbers.specs.Context.{parameter, returned, member}
use Rattle.extern_plain.specs.Plain.{fixed_plain}
use Rattle.extern_fixing.specs.Fixing.{under, kept, externalized, externalize, fixed_extern, fixed}
use Rattle.write_type.specs.Outcome.{delivered}
use Rattle.extern_fixing.specs.Answers.{fixed_type}
use Rattle.extern_fixing.proofs.Externalizing.{goes, turned, ways, no-type, from-under, same_length}

-- The number of layers. One more: for an extern Arraylike; for a Struct that is not extern, under Parameter and Returned.
abbrev pub one_more : Bool → ℕ → List Layer → Bool
one_more true context a = eqb (outer a) kind.arraylike
one_more false context a = eqb (outer a) kind.struct && (eqb context parameter || eqb context returned)

-- One less: for a Pointer to Arraylike that is not extern.
abbrev pub one_less : Bool → List Layer → Bool
one_less true a = false
one_less false a = eqb (outer a) kind.pointer && eqb (outer (inside a)) kind.arraylike

abbrev count : Bool → ℕ
count b = cond b 1 0

from-externalize : (p : ℕ) (a b : List Layer) → externalize p a ≡ given b → externalized p a ≡ given b
unfolding externalize
from-externalize p a b e = by_form (well_formed a) e
  where
    by_form : (f : Bool) → cond f (externalized p a) (refused 4 0) ≡ given b → externalized p a ≡ given b
    by_form true e = e
    by_form false e = absurd (no-type 4 0 b e)

-- a type with an outer kind has a layer
there : (k : ℕ) (a : List Layer) → eqb (outer a) k ≡ true → eqb 25 k ≡ false → length a ≡ suc (length (inside a))
unfolding outer inside
there k [] e n = absurd (false≢true (sym n ∙ e))
there k (x ∷ a) e n = refl

extern-length : (a b : List Layer) → fixed_extern a ≡ given b → length b ≡ length a + count (eqb (outer a) kind.arraylike)
unfolding fixed_extern
extern-length a b e = by_kind (eqb (outer a) kind.arraylike) refl e
  where
    by_kind : (k : Bool) → eqb (outer a) kind.arraylike ≡ k →
        cond k (under (layer kind.view 0 0 ∷ layer kind.endless_array 0 0 ∷ []) (externalize 1 (inside a))) (externalize 0 a) ≡ given b → length b ≡ length a + count k
    by_kind true k e =
        let i = from-under (layer kind.view 0 0 ∷ layer kind.endless_array 0 0 ∷ []) (externalize 1 (inside a)) b e in
        let n = same_length 1 (inside a) i.type (from-externalize 1 (inside a) i.type i.made) in
        rw i.is (omega (arith, n, there kind.arraylike a k refl))
    by_kind false k e = omega (arith, same_length 0 a b (from-externalize 0 a b e))

plain-length : (context : ℕ) (a : List Layer) →
    length (fixed_plain context a) + count (one_less false a) ≡ length a + count (one_more false context a)
unfolding fixed_plain
plain-length context a =
    by_kind (eqb (outer a) kind.arraylike) (eqb (outer a) kind.struct && (eqb context parameter || eqb context returned))
    (eqb (outer a) kind.pointer && eqb (outer (inside a)) kind.arraylike) refl refl refl
  where
    by_kind : (r s p : Bool) → eqb (outer a) kind.arraylike ≡ r → (eqb (outer a) kind.struct && (eqb context parameter || eqb context returned)) ≡ s →
        (eqb (outer a) kind.pointer && eqb (outer (inside a)) kind.arraylike) ≡ p →
        length (cond r (layer kind.slice 0 0 ∷ inside a) (cond s (layer kind.view 0 0 ∷ a) (cond p (layer kind.slice_pointer 0 0 ∷ inside (inside a)) a))) + count p
        ≡ length a + count s
    by_kind true s p e f g =
        let k = eqb-true (outer a) kind.arraylike e in
        let sn : false ≡ s = rw k at f in
        let pn : false ≡ p = rw k at g in
        rw (← sn, ← pn) (omega (arith, there kind.arraylike a e refl))
    by_kind false true p e f g =
        let k = eqb-true (outer a) kind.struct (both (eqb (outer a) kind.struct) (eqb context parameter || eqb context returned) f).0 in
        let pn : false ≡ p = rw k at g in
        rw (← pn) (omega arith)
    by_kind false false true e f g =
        let h = both (eqb (outer a) kind.pointer) (eqb (outer (inside a)) kind.arraylike) g in
        omega (arith, there kind.pointer a h.0 refl, there kind.arraylike (inside a) h.1 refl)
    by_kind false false false e f g = refl

-- What is not refused keeps the number of layers, but for those.
pub fixed-length : (external : Bool) (context : ℕ) (a b : List Layer) → fixed external context a ≡ given b →
    length b + count (one_less external a) ≡ length a + count (one_more external context a)
unfolding fixed
fixed-length external context a b e = by-context (ltb member context) external e
  where
    by-context : (c x : Bool) → cond c (refused 5 0) (cond x (fixed_extern a) (given (fixed_plain context a))) ≡ given b →
        length b + count (one_less x a) ≡ length a + count (one_more x context a)
    by-context true x e = absurd (no-type 5 0 b e)
    by-context false true e = omega (arith, extern-length a b e)
    by-context false false e = let w : b ≡ fixed_plain context a = cc in rw w (plain-length context a)

-- The kinds that stand in a result of extern fixing.
abbrev pub is_extern : ℕ → Bool
is_extern k = kept k || is_reference k || eqb k kind.endless_array

abbrev pub all_extern : List Layer → Bool
all_extern [] = true
all_extern (x ∷ a) = is_extern x.kind && all_extern a

leaf : (k : ℕ) → kept k ≡ true → holds_inner k ≡ false
leaf k t =
    let P : ℕ → Type 0 = λ (k : ℕ). holds_inner k ≡ false in
    or P k _ 12 t refl (λ t. or P k _ 11 t refl (λ t. or P k _ 9 t refl (λ t. or P k _ 8 t refl (λ t. or P k _ 7 t refl (λ t.
    or P k _ 6 t refl (λ t. or P k _ 4 t refl (λ t. or P k _ 3 t refl (λ t. or P k _ 2 t refl (λ t. one P k 1 t refl)))))))))

holds : (k : ℕ) → goes k ≡ true → holds_inner k ≡ true
holds k t =
    let P : ℕ → Type 0 = λ (k : ℕ). holds_inner k ≡ true in
    or P k _ 19 t refl (λ t. or P k _ 24 t refl (λ t. one P k 23 t refl))

turned-extern : (x : Layer) → goes x.kind ≡ true → is_extern (turned x).kind ≡ true
turned-extern x t = by_kind (eqb x.kind kind.arraylike) t
  where
    by_kind : (l : Bool) → (is_reference x.kind || l) ≡ true → is_extern (cond l (layer kind.endless_array 0 0) x).kind ≡ true
    by_kind true t = refl
    by_kind false t =
        let P : ℕ → Type 0 = λ (k : ℕ). is_extern k ≡ true in
        references P x.kind (rw or-false at t) refl refl

-- a run of layers in which none is misplaced ends with its leaf
ends : (p : ℕ) (x : Layer) (a : List Layer) → misplaced p (x ∷ a) ≡ nowhere → holds_inner x.kind ≡ false → a ≡ []
unfolding misplaced
ends p x [] e h = refl
ends p x (y ∷ a) e h = let q : at p ≡ nowhere = rw h at e in cc

externalized-extern : (p q : ℕ) (a b : List Layer) → misplaced q a ≡ nowhere → externalized p a ≡ given b → all_extern b ≡ true
unfolding externalized
externalized-extern p q [] b m e = absurd (no-type 6 p b e)
externalized-extern p q (x ∷ a) b m e =
    ways p x a (λ (o : Answer (List Layer)). o ≡ given b → all_extern b ≡ true)
    (λ k r.
    let w : b ≡ x ∷ a = cc in
    let z : a ≡ [] = ends q x a m (leaf x.kind k) in
    rw (w, z, k))
    (λ g r.
    let i = from-under (turned x ∷ []) (externalized (p + 1) a) b r in
    rw (i.is, turned-extern x g)
    (externalized-extern (p + 1) (q + 1) a i.type (placed-inside q x a m (holds x.kind g)).1 i.made))
    (λ r. absurd (no-type 6 p b r))
    e

element-ends : (a : List Layer) → misplaced 0 a ≡ nowhere → eqb (outer a) kind.arraylike ≡ true → misplaced 1 (inside a) ≡ nowhere
unfolding outer inside misplaced
element-ends [] m k = refl
element-ends (x ∷ a) m k = (placed-inside 0 x a m (one (λ (k : ℕ). holds_inner k ≡ true) x.kind kind.arraylike k refl)).1

extern-extern : (a b : List Layer) → misplaced 0 a ≡ nowhere → fixed_extern a ≡ given b → all_extern b ≡ true
unfolding fixed_extern
extern-extern a b m e = by_kind (eqb (outer a) kind.arraylike) refl e
  where
    by_kind : (k : Bool) → eqb (outer a) kind.arraylike ≡ k →
        cond k (under (layer kind.view 0 0 ∷ layer kind.endless_array 0 0 ∷ []) (externalize 1 (inside a))) (externalize 0 a) ≡ given b → all_extern b ≡ true
    by_kind true k e =
        let i = from-under (layer kind.view 0 0 ∷ layer kind.endless_array 0 0 ∷ []) (externalize 1 (inside a)) b e in
        rw i.is (externalized-extern 1 1 (inside a) i.type (element-ends a m k) (from-externalize 1 (inside a) i.type i.made))
    by_kind false k e = externalized-extern 0 0 a b m (from-externalize 0 a b e)

-- what was written passed the checks, and was made
passed : (t : List ℕ) (o : Answer (List Layer)) (b : List Layer) → next (check_of t) o ≡ given b → (misplaced 0 (layers t) ≡ nowhere) × (o ≡ given b)
unfolding check_of
passed t o b e = by-places (bad_count (length t)) (bad_layer 0 (layers t)) (misplaced 0 (layers t)) refl e
  where
    by-places : (c : Bool) (l m : Place) → misplaced 0 (layers t) ≡ m →
        next (cond c (refused 1 0) (unless l 2 (unless m 3 (given (length t / 3))))) o ≡ given b → (misplaced 0 (layers t) ≡ nowhere) × (o ≡ given b)
    by-places true l m f e = absurd (no-type 1 0 b e)
    by-places false (at q) m f e = absurd (no-type 2 q b e)
    by-places false nowhere (at q) f e = absurd (no-type 3 q b e)
    by-places false nowhere nowhere f e = (f, e)

delivered-made : (room : ℕ) (o : Answer (List Layer)) (b : List Layer) → delivered room o ≡ given b → o ≡ given b
unfolding delivered
delivered-made room (given a) b e = by_size (ltb 16 (length a)) (ltb room (length (spelled a))) e
  where
    by_size : (l s : Bool) → cond l (refused 15 0) (cond s (refused 14 0) (given a)) ≡ given b → given a ≡ given b
    by_size true s e = absurd (no-type 15 0 b e)
    by_size false true e = absurd (no-type 14 0 b e)
    by_size false false e = e
delivered-made room nothing b e = e
delivered-made room (refused n p) b e = e

-- A result of extern fixing has only those kinds.
pub fixed-extern : (t : List ℕ) (context room : ℕ) (b : List Layer) → fixed_type t true context room ≡ given b → all_extern b ≡ true
unfolding fixed_type fixed
fixed-extern t context room b e =
    let p = passed t (delivered room (fixed true context (layers t))) b e in
    by-context (ltb member context) (delivered-made room (fixed true context (layers t)) b p.1) p.0
  where
    by-context : (c : Bool) → cond c (refused 5 0) (fixed_extern (layers t)) ≡ given b → misplaced 0 (layers t) ≡ nowhere → all_extern b ≡ true
    by-context true e m = absurd (no-type 5 0 b e)
    by-context false e m = extern-extern (layers t) b m e

-- Extern fixing makes an ill-formed type of a well-formed one, and refuses what it made.
module _ where
  abbrev pub arraylikes : List Layer
  arraylikes = layer kind.arraylike 0 0 ∷ layer kind.arraylike 0 0 ∷ layer kind.int8 0 0 ∷ []

  abbrev pub endless : List Layer
  endless = layer kind.view 0 0 ∷ layer kind.endless_array 0 0 ∷ layer kind.endless_array 0 0 ∷ layer kind.int8 0 0 ∷ []

  pub well-formed-before : well_formed arraylikes ≡ true
  unfolding well_formed inner outer
  well-formed-before = refl

  pub made-endless : fixed_extern arraylikes ≡ given endless
  unfolding fixed_extern externalize externalized under well_formed inner outer inside
  made-endless = refl

  pub ill-formed-after : well_formed endless ≡ false
  unfolding well_formed inner element outer inside
  ill-formed-after = refl

  pub not-repeatable : fixed_extern endless ≡ refused 4 0
  unfolding fixed_extern externalize well_formed inner element outer inside
  not-repeatable = refl
