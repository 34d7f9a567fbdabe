-- What follows from the definitions of the coercions and dereferences alone.
-- Assumes nothing.
use mathlib.Core.Path.{◌≡◌, refl, sym, subst, ◌∙◌}
use mathlib.Core.Bool.{Bool, true, false, cond, not, ◌&&◌, ◌||◌, or-true, true≢false, false≢true}
use mathlib.Core.List.{List, [], ◌∷◌}
use Prim.Native.Nat.{ℕ}
use lib.Dec.{eqb}
use borrow.Author.Tests.{eqb-true}
use Rattle.type_numbers.specs.Kind as kind
use Rattle.type_numbers.specs.CoercionNumber as of-coercion
use Rattle.type_layers.specs.Layers.{Layer, layer, outer, inside, is_reference}
use Rattle.relation_equals.specs.Equals.{identical, equals}
use Rattle.relation_equals.proofs.Theorems.{identical-equals, equals-reflexive}
use Rattle.relation_coerces.specs.Coerces.{has_length, into_slice, into_endless_array, struct_into_view, coerces, address_coerces, is_array_or_struct, view_autoderefs, pointer_autoderefs, autoderefs}
use Rattle.relation_coerces.specs.Coercion.{coercion}

-- the pairs of kinds of which a value may coerce
abbrev listed : ℕ → ℕ → ℕ → Bool
listed k l m = into_slice k l || into_endless_array k l m || struct_into_view k l

-- a fact of each of two kinds is one of a kind that is either
either : (k i j : ℕ) (P : ℕ → Type 0) → P i → P j → (eqb k i || eqb k j) ≡ true → P k
either k i j P p q h = by_kind (eqb k i) refl h
  where
    by_kind : (u : Bool) → eqb k i ≡ u → (u || eqb k j) ≡ true → P k
    by_kind true e g = subst P (sym (eqb-true k i e)) p
    by_kind false e g = subst P (sym (eqb-true k j g)) q

unlisted : (k l m : ℕ) → has_length k ≡ true → (eqb l kind.slice_pointer || eqb l kind.pointer) ≡ true → listed k l m ≡ false
unlisted k l m h g =
    either k kind.array kind.array_with_named_length (λ (i : ℕ). listed i l m ≡ false)
    (either l kind.slice_pointer kind.pointer (λ (j : ℕ). listed kind.array j m ≡ false) refl refl g)
    (either l kind.slice_pointer kind.pointer (λ (j : ℕ). listed kind.array_with_named_length j m ≡ false) refl refl g)
    h

some : (u v w x y z : Bool) → cond u x (cond v y (cond w z false)) ≡ true → (u || v || w) ≡ true
some true v w x y z e = refl
some false true w x y z e = refl
some false false true x y z e = refl
some false false false x y z e = e

-- what coerces is a listed pair, and what address coerces is none
coerces-listed : (a b : List Layer) → coerces a b ≡ true → listed (outer a) (outer b) (outer (inside b)) ≡ true
unfolding coerces
coerces-listed a b e =
    some (into_slice (outer a) (outer b)) (into_endless_array (outer a) (outer b) (outer (inside b))) (struct_into_view (outer a) (outer b))
    (equals (inside a) (inside b)) (equals (inside a) (inside (inside b))) (identical a (inside b)) e

address-unlisted : (a b : List Layer) → address_coerces a b ≡ true → listed (outer a) (outer b) (outer (inside b)) ≡ false
unfolding address_coerces
address-unlisted a b e = by_tests (has_length (outer a)) (eqb (outer b) kind.slice_pointer) (eqb (outer b) kind.pointer) refl refl refl e
  where
    by_tests : (h p q : Bool) → has_length (outer a) ≡ h → eqb (outer b) kind.slice_pointer ≡ p → eqb (outer b) kind.pointer ≡ q →
        cond (h && p) (equals (inside a) (inside b))
        (cond (h && q && eqb (outer (inside b)) kind.endless_array) (equals (inside a) (inside (inside b))) false)
        ≡ true →
        listed (outer a) (outer b) (outer (inside b)) ≡ false
    by_tests true true q s t u g = unlisted (outer a) (outer b) (outer (inside b)) s (rw t)
    by_tests true false true s t u g = unlisted (outer a) (outer b) (outer (inside b)) s (rw (t, u))
    by_tests true false false s t u g = absurd (false≢true g)
    by_tests false p q s t u g = absurd (false≢true g)

-- No type coerces into another both as a value and by its address.
pub never_both : (a b : List Layer) → (coerces a b && address_coerces a b) ≡ false
never_both a b = by-answers (coerces a b) (address_coerces a b) refl refl
  where
    by-answers : (u v : Bool) → coerces a b ≡ u → address_coerces a b ≡ v → (u && v) ≡ false
    by-answers true true e f = sym (coerces-listed a b e) ∙ address-unlisted a b f
    by-answers true false e f = refl
    by-answers false v e f = refl

-- the merged answer of two questions that never both say yes
answered : (f g : Bool) → (f && g) ≡ false →
    let n = cond f of-coercion.as_value (cond g of-coercion.by_address of-coercion.none) in
    (eqb n of-coercion.as_value ≡ f) × (eqb n of-coercion.by_address ≡ g) × (eqb n of-coercion.none ≡ not (f || g))
answered true true e = absurd (true≢false e)
answered true false e = (refl, refl, refl)
answered false true e = (refl, refl, refl)
answered false false e = (refl, refl, refl)

-- So the merged answer agrees with each of the two: it is as a value exactly where a type coerces,
pub as-value : (a b : List Layer) → eqb (coercion a b) of-coercion.as_value ≡ coerces a b
unfolding coercion
as-value a b = (answered (coerces a b) (address_coerces a b) (never_both a b)).0

-- by address exactly where its address coerces,
pub by-address : (a b : List Layer) → eqb (coercion a b) of-coercion.by_address ≡ address_coerces a b
unfolding coercion
by-address a b = (answered (coerces a b) (address_coerces a b) (never_both a b)).1

-- and none exactly where neither does.
pub none-where-neither : (a b : List Layer) → eqb (coercion a b) of-coercion.none ≡ not (coerces a b || address_coerces a b)
unfolding coercion
none-where-neither a b = (answered (coerces a b) (address_coerces a b) (never_both a b)).2

-- a listed pair's left type is of one of the kinds 14-18 and 20
array-or-struct : (k l m : ℕ) → listed k l m ≡ true → is_array_or_struct k ≡ true
array-or-struct k l m e =
    by_tests (eqb k kind.array) (eqb k kind.array_with_named_length) (eqb k kind.slice) (eqb k kind.slice_pointer) (eqb k kind.struct) e
  where
    by_tests : (u v w x y : Bool) →
        ((u || v) && eqb l kind.slice
        || ((u || v || w) && eqb l kind.view && eqb m kind.endless_array || x && eqb l kind.pointer && eqb m kind.endless_array)
        || y && eqb l kind.view)
        ≡ true →
        (u || v || w || x || eqb k kind.endless_array || y) ≡ true
    by_tests true v w x y h = refl
    by_tests false true w x y h = refl
    by_tests false false true x y h = refl
    by_tests false false false true y h = refl
    by_tests false false false false true h = or-true (eqb k kind.endless_array)
    by_tests false false false false false h = absurd (false≢true h)

-- What coerces also autoderefs; it is of one of the kinds 14-18 and 20.
pub coerces-autoderefs : (a b : List Layer) → coerces a b ≡ true → autoderefs a b ≡ true
unfolding autoderefs
coerces-autoderefs a b e =
    rw (array-or-struct (outer a) (outer b) (outer (inside b)) (coerces-listed a b e), e) (or-true (equals a b))

-- What a type's address coerces into, a Pointer to the type autoderefs into.
pub address-autoderefs : (x : Layer) (d b : List Layer) → x.kind ≡ kind.pointer → address_coerces d b ≡ true →
    autoderefs (x ∷ d) b ≡ true
unfolding autoderefs pointer_autoderefs outer inside
address-autoderefs x d b k e = rw (k, e, or-true)

-- Identical types of the kinds 14-18 and 20 autoderef.
pub identical-autoderefs : (a b : List Layer) → is_array_or_struct (outer a) ≡ true → identical a b ≡ true → autoderefs a b ≡ true
unfolding autoderefs
identical-autoderefs a b k e = rw (k, identical-equals a b e)

chosen : (u v w : Bool) → cond u true (cond v true (cond w true false)) ≡ (u || (w || v))
chosen true v w = refl
chosen false true w = sym (or-true w)
chosen false false true = refl
chosen false false false = refl

-- A type autoderefs into itself if it is of kind 14-18, 20, 23 or 24, and no other type does.
pub autoderefs-itself : (a : List Layer) → autoderefs a a ≡ (is_array_or_struct (outer a) || is_reference (outer a))
unfolding autoderefs view_autoderefs pointer_autoderefs
autoderefs-itself a = rw (equals-reflexive a) (chosen (is_array_or_struct (outer a)) (eqb (outer a) kind.view) (eqb (outer a) kind.pointer))

-- So Int32 doesn't.
abbrev int32 : List Layer
int32 = layer kind.int32 0 0 ∷ []

pub int32-not-into-itself : autoderefs int32 int32 ≡ false
unfolding autoderefs outer
int32-not-into-itself = refl
