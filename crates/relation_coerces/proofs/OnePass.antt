-- Sub-autoderefs never has to ask twice: where both types are of one outer kind, one line of the rule follows from each of
-- the others. So one pass answers it; which pairs it settles, and how many pairs of layers *equals* compares in it.
-- Assumes nothing.
use mathlib.Core.Path.{◌≡◌, refl, sym, ap, ◌∙◌}
use mathlib.Core.Bool.{Bool, true, false, cond, not, ◌&&◌, ◌||◌, or-true, or-false, true≢false, false≢true}
use mathlib.Core.List.{List, [], ◌∷◌, ◌++◌}
use Prim.Native.Nat.{ℕ, zero, suc, ◌+◌, ◌≤◌, ◌<◌}
use native.Mathlib.Omega.{arith}
use lib.Dec.{eqb}
use lib.ListN.{length, drop, get_or, length-drop}
use borrow.Author.Tests.{eq-eqb, eqb-true, eqb-false, not-false}
use Rattle.type_numbers.specs.Kind as kind
use Rattle.type_layers.specs.Layers.{Layer, layer, outer, inside, is_reference}
use Rattle.type_layers.proofs.Decide.{both, neither}
use Rattle.relation_equals.specs.Equals.{same_layer, identical, plain_kind, plain_layer, plain, equals}
use Rattle.relation_equals.proofs.Theorems.{same-layers}
use Rattle.relation_coerces.specs.Coerces.{subautoderefs}
use Rattle.relation_coerces.specs.AsCoded.{may_equal, compared_by, Pass, ends, goes_on, pass}

-- Char8 and Uint8, which equals takes for one, are neither View nor Pointer
same_kind : (k l : ℕ) → plain_kind k ≡ plain_kind l → is_reference l ≡ true → k ≡ l
same_kind k l e t = by-alias (eqb k kind.char8) (eqb l kind.char8) refl refl e
  where
    by-alias : (u v : Bool) → eqb k kind.char8 ≡ u → eqb l kind.char8 ≡ v → cond u kind.uint8 k ≡ cond v kind.uint8 l → k ≡ l
    by-alias u true p q s = absurd (false≢true (rw (eqb-true l kind.char8 q) at t))
    by-alias true false p q s = absurd (false≢true (rw (← s) at t))
    by-alias false false p q s = s

-- two layers that equals takes for the same
plain-kinds : (x y : Layer) → same_layer (plain_layer x) (plain_layer y) ≡ true → plain_kind x.kind ≡ plain_kind y.kind
plain-kinds x y e = ap (λ z. z.kind) (same-layers (plain_layer x) (plain_layer y) e)

-- so a View or a Pointer equals nothing of another kind
pub apart : (d b : List Layer) → may_equal (outer d) (outer b) ≡ false → equals d b ≡ false
unfolding outer equals plain identical
apart [] b e = absurd (true≢false (sym (or-true (eqb 25 (outer b))) ∙ e))
apart (x ∷ d) [] e = refl
apart (x ∷ d) (y ∷ b) e = by-test (equals (x ∷ d) (y ∷ b)) refl
  where
    by-test : (t : Bool) → equals (x ∷ d) (y ∷ b) ≡ t → t ≡ false
    by-test false p = refl
    by-test true p =
        let f = neither (eqb x.kind y.kind) (not (is_reference x.kind)) e in
        let same = plain-kinds x y (both (same_layer (plain_layer x) (plain_layer y)) (identical (plain d) (plain b)) p).0 in
        absurd (eqb-false x.kind y.kind f.0 (sym (same_kind y.kind x.kind (sym same) (not-false (is_reference x.kind) f.1))))

-- what one of three tests gives, if each gives it; and the last of three that follows from each of the others
any_of : (u v w x : Bool) → (u ≡ true → x ≡ true) → (v ≡ true → x ≡ true) → (w ≡ true → x ≡ true) → (u || v || w) ≡ true → x ≡ true
any_of true v w x p q r e = p refl
any_of false true w x p q r e = q refl
any_of false false w x p q r e = r e

last_of : (u v w : Bool) → (u ≡ true → w ≡ true) → (v ≡ true → w ≡ true) → (u || v || w) ≡ w
last_of true v w p q = sym (p refl)
last_of false true w p q = sym (q refl)
last_of false false w p q = refl

-- what equals a View or a Pointer, or sub-autoderefs into it, sub-autoderefs into what that holds
module _ (y : Layer) (b : List Layer) (t : is_reference y.kind ≡ true) where
  equals-held : (d : List Layer) → equals d (y ∷ b) ≡ true → subautoderefs d b ≡ true
  unfolding equals plain identical subautoderefs
  equals-held [] e = absurd (false≢true e)
  equals-held (z ∷ d) e =
      let f = both (same_layer (plain_layer z) (plain_layer y)) (identical (plain d) (plain b)) e in
      rw (same_kind z.kind y.kind (plain-kinds z y f.0) t, t, f.1)

  into-held : (d : List Layer) → subautoderefs d (y ∷ b) ≡ true → subautoderefs d b ≡ true
  unfolding outer inside subautoderefs
  into-held [] e = e
  into-held (z ∷ d) e =
      let f = both (is_reference z.kind) (equals d (y ∷ b) || subautoderefs d (y ∷ b) || eqb y.kind z.kind && subautoderefs d b) e in
      let last : (eqb y.kind z.kind && subautoderefs d b) ≡ true → subautoderefs d b ≡ true = λ g. (both (eqb y.kind z.kind) (subautoderefs d b) g).1 in
      let s = any_of _ _ _ (subautoderefs d b) (equals-held d) (into-held d) last f.1 in
      rw (f.0, s, or-true)

-- So sub-autoderefs need ask of one other pair at most: what both hold, where they are of one kind, or else d and b.
pub one_line : (x : Layer) (d b : List Layer) →
    subautoderefs (x ∷ d) b
    ≡ cond (is_reference x.kind) (cond (eqb (outer b) x.kind) (subautoderefs d (inside b)) (cond (equals d b) true (subautoderefs d b))) false
unfolding outer inside subautoderefs
one_line x d b = by_tests b (is_reference x.kind) (eqb (outer b) x.kind) (equals d b) refl refl refl
  where
    by_tests : (b : List Layer) (t u v : Bool) → is_reference x.kind ≡ t → eqb (outer b) x.kind ≡ u → equals d b ≡ v →
        subautoderefs (x ∷ d) b ≡ cond t (cond u (subautoderefs d (inside b)) (cond v true (subautoderefs d b))) false
    by_tests b false u v p q r = rw p
    by_tests b true false true p q r = rw (p, r)
    by_tests b true false false p q r = rw (p, q, r, or-false)
    by_tests [] true true v p q r = absurd (false≢true (rw (← eqb-true 25 x.kind q) at p))
    by_tests (y ∷ b) true true v p q r =
        let e = rw (← eqb-true y.kind x.kind q) at p in
        rw (p, q) (last_of _ _ _ (equals-held y b e d) (into-held y b e d))

-- a fact of each branch that a pass may take is one of the pass
by-branch : (P : Pass → Type 0) (x : Layer) (d b : List Layer) →
    (is_reference x.kind ≡ true → eqb (outer b) x.kind ≡ true → P (goes_on (x ∷ d) b 0 (pass d (inside b)))) →
    (is_reference x.kind ≡ true → eqb (outer b) x.kind ≡ false → equals d b ≡ true → P (ends (x ∷ d) b (compared_by d b) true)) →
    (is_reference x.kind ≡ true → eqb (outer b) x.kind ≡ false → equals d b ≡ false →
    (n : ℕ) → n ≤ compared_by d b → P (goes_on (x ∷ d) b n (pass d b))) →
    (is_reference x.kind ≡ false → P (ends (x ∷ d) b 0 false)) →
    P (pass (x ∷ d) b)
unfolding pass
by-branch P x d b held equal on other =
    by_tests (is_reference x.kind) (eqb (outer b) x.kind) (may_equal (outer d) (outer b)) (equals d b) refl refl refl refl
  where
    by_tests : (t u m v : Bool) → is_reference x.kind ≡ t → eqb (outer b) x.kind ≡ u → may_equal (outer d) (outer b) ≡ m → equals d b ≡ v →
        P (cond t
        (cond u (goes_on (x ∷ d) b 0 (pass d (inside b)))
        (cond m (cond v (ends (x ∷ d) b (compared_by d b) true) (goes_on (x ∷ d) b (compared_by d b) (pass d b)))
        (goes_on (x ∷ d) b 0 (pass d b))))
        (ends (x ∷ d) b 0 false))
    by_tests false u m v p q r s = other p
    by_tests true true m v p q r s = held p q
    by_tests true false true true p q r s = equal p q s
    by_tests true false true false p q r s = on p q s (compared_by d b) (omega arith)
    by_tests true false false v p q r s = on p q (apart d b r) 0 (omega arith)

-- One pass answers it.
pub pass-answers : (a b : List Layer) → (pass a b).yes ≡ subautoderefs a b
unfolding pass subautoderefs
pass-answers [] b = refl
pass-answers (x ∷ d) b =
    by-branch (λ p. p.yes ≡ subautoderefs (x ∷ d) b) x d b
    (λ p q. rw (one_line x d b, p, q) (pass-answers d (inside b)))
    (λ p q r. rw (one_line x d b, p, q, r))
    (λ p q r n h. rw (one_line x d b, p, q, r) (pass-answers d b))
    (λ p. rw (one_line x d b, p))

-- It settles a with some type, then what a holds with some type, and so on.
abbrev pub no-pair : List Layer × List Layer
no-pair = ([], [])

abbrev Falls : List Layer → List (List Layer × List Layer) → Type 0
Falls a ps = (k : ℕ) → k < length ps → (get_or ps k no-pair).0 ≡ drop k a

falls-on : (x : Layer) (d b : List Layer) (ps : List (List Layer × List Layer)) → Falls d ps → Falls (x ∷ d) ((x ∷ d, b) ∷ ps)
falls-on x d b ps f zero h = refl
falls-on x d b ps f (suc k) h = f k (omega (arith, h))

falls-end : (a : List Layer) → Falls a []
falls-end a k h = absurd (omega (arith, h))

pub pass-falls : (a b : List Layer) → Falls a (pass a b).pairs
unfolding pass
pass-falls [] b = falls-end []
pass-falls (x ∷ d) b =
    by-branch (λ p. Falls (x ∷ d) p.pairs) x d b
    (λ p q. falls-on x d b (pass d (inside b)).pairs (pass-falls d (inside b)))
    (λ p q r. falls-on x d b [] (falls-end d))
    (λ p q r n h. falls-on x d b (pass d b).pairs (pass-falls d b))
    (λ p. falls-on x d b [] (falls-end d))

-- It settles no more pairs than a has layers,
pub pass-few : (a b : List Layer) → length (pass a b).pairs ≤ length a
unfolding pass
pass-few [] b = omega arith
pass-few (x ∷ d) b =
    by-branch (λ p. length p.pairs ≤ length (x ∷ d)) x d b
    (λ p q. omega (arith, pass-few d (inside b)))
    (λ p q r. omega arith)
    (λ p q r n h. omega (arith, pass-few d b))
    (λ p. omega arith)

-- and none twice.
pub pass-once : (a b : List Layer) (i j : ℕ) → i < j → j < length (pass a b).pairs →
    get_or (pass a b).pairs i no-pair ≡ get_or (pass a b).pairs j no-pair → ⊥
pass-once a b i j h g e =
    let few = pass-few a b in
    let same : length (drop i a) ≡ length (drop j a) = ap length (sym (pass-falls a b i (omega (arith, h, g))) ∙ ap (λ p. p.0) e ∙ pass-falls a b j g) in
    omega (arith, h, g, few, same, length-drop i a, length-drop j a)

-- In it *equals* compares no more pairs of layers than a holds layers: 15 where a has 16.
compares-next : (d : List Layer) → ((b : List Layer) → compared_by d b + (pass d b).compared ≤ length d) → (x : Layer) (b : List Layer) →
    (pass (x ∷ d) b).compared ≤ length d
compares-next d f x b =
    by-branch (λ p. p.compared ≤ length d) x d b
    (λ p q. omega (arith, f (inside b)))
    (λ p q r. omega (arith, f b))
    (λ p q r n h. omega (arith, h, f b))
    (λ p. omega arith)

compares-both : (d b : List Layer) → compared_by d b + (pass d b).compared ≤ length d
unfolding compared_by pass outer inside
compares-both [] b = omega arith
compares-both (z ∷ d) [] = let f = compares-next d (compares-both d) z [] in omega (arith, f)
compares-both (z ∷ d) (y ∷ b) =
    by_tests (same_layer (plain_layer z) (plain_layer y)) (is_reference z.kind) refl refl
    (compares-both d b) (compares-next d (compares-both d) z (y ∷ b))
  where
    by_tests : (s t : Bool) → same_layer (plain_layer z) (plain_layer y) ≡ s → is_reference z.kind ≡ t →
        compared_by d b + (pass d b).compared ≤ length d → (pass (z ∷ d) (y ∷ b)).compared ≤ length d →
        compared_by (z ∷ d) (y ∷ b) + (pass (z ∷ d) (y ∷ b)).compared ≤ suc (length d)
    by_tests false t p q i j = rw p (omega (arith, j))
    by_tests true false p q i j = rw (p, q) (omega (arith, i))
    by_tests true true p q i j =
        rw (p, q, eq-eqb y.kind z.kind (same_kind y.kind z.kind (sym (plain-kinds z y p)) q)) (omega (arith, i))

pub pass-compares : (x : Layer) (d b : List Layer) → (pass (x ∷ d) b).compared ≤ length d
pass-compares x d b = compares-next d (compares-both d) x b

-- So many it may be: of two types of 16 layers, Pointers and Views in turn.
abbrev in_turn : ℕ → ℕ → List Layer
in_turn k l = two ++ two ++ two ++ two ++ two ++ two ++ two ++ layer k 0 0 ∷ layer kind.int32 0 0 ∷ []
  where
    two : List Layer
    two = layer k 0 0 ∷ layer l 0 0 ∷ []

pub fifteen-compared : (pass (in_turn kind.pointer kind.view) (in_turn kind.view kind.pointer)).compared ≡ 15
unfolding pass compared_by outer inside equals identical plain
fifteen-compared = refl
