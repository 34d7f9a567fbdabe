-- What is known where each line applies, and what holds of each line's outcome holds of what a settling gives.
-- Assumes nothing.
use mathlib.Core.Path.{◌≡◌, refl, subst}
use mathlib.Core.Bool.{Bool, true, false, cond, ◌&&◌}
use mathlib.Core.List.{List, [], ◌∷◌}
use Prim.Native.Nat.{ℕ, ◌+◌, ◌≤◌}
use native.Mathlib.Omega.{arith}
use lib.Dec.{eqb, ltb, leb}
use borrow.Author.Tests.{eqb-true, eqb-false, leb-false}
use Rattle.type_numbers.specs.Kind as kind
use Rattle.type_layers.specs.Layers.{Layer, outer, inside}
use Rattle.type_layers.specs.Answer.{given, refused}
use Rattle.type_size_and_depth.specs.Depth.{pointer_depth}
use Rattle.relation_equals.specs.Equals.{identical}
use Rattle.relation_coerces.specs.Coerces.{coerces, address_coerces}
use Rattle.type_layers.proofs.Decide.{both}
use Rattle.type_numbers.specs.StepKind as of-step
use Rattle.plan_steps.specs.Steps.{step}
use Rattle.plan_settling.specs.Line as line
use Rattle.plan_settling.specs.Line.{Line}
use Rattle.plan_settling.specs.Settling.{Settled, settled, by_address, plainly, dereferenced, settle_otherwise, line_of, settle_by, settle}
use Rattle.type_layers.proofs.Given.{not-given, given_is}

-- the lines in their order, by the tests alone
abbrev first : Bool → Bool → Bool → Bool → Bool → Bool → Line
first i ii iii iv v vi = cond i line.i (cond ii line.ii (cond iii line.iii (cond iv line.iv (cond v line.v (cond vi line.vi line.vii)))))

abbrev Passed : Bool → Bool → Bool → Bool → Bool → Bool → Line → Type 0
Passed i ii iii iv v vi line.i = i ≡ true
Passed i ii iii iv v vi line.ii = ii ≡ true
Passed i ii iii iv v vi line.iii = iii ≡ true
Passed i ii iii iv v vi line.iv = iv ≡ true
Passed i ii iii iv v vi line.v = v ≡ true
Passed i ii iii iv v vi line.vi = vi ≡ true
Passed i ii iii iv v vi line.vii = Unit

passed : (i ii iii iv v vi : Bool) → Passed i ii iii iv v vi (first i ii iii iv v vi)
passed true ii iii iv v vi = refl
passed false true iii iv v vi = refl
passed false false true iv v vi = refl
passed false false false true v vi = refl
passed false false false false true vi = refl
passed false false false false false true = refl
passed false false false false false false = tt

module _ (c t : List Layer) (n : ℕ) where
  -- what is known where a line applies
  abbrev pub Knows : Line → Type 0
  Knows line.i = identical c t ≡ true
  Knows line.ii = (eqb (outer c) kind.view ≡ true) × (identical (inside c) t ≡ true)
  Knows line.iii = coerces c t ≡ true
  Knows line.iv = identical c t ≡ true
  Knows line.v = (eqb (outer t) kind.pointer ≡ true) × (identical (inside t) c ≡ true)
  Knows line.vi = address_coerces c t ≡ true
  Knows line.vii = Unit

  -- the tests of the first six lines
  abbrev one : Bool
  one = plainly t n && identical c t

  abbrev two : Bool
  two = plainly t n && eqb (outer c) kind.view && identical (inside c) t

  abbrev three : Bool
  three = plainly t n && coerces c t

  abbrev four : Bool
  four = eqb n 1 && eqb (outer c) kind.slice_pointer && identical c t

  abbrev five : Bool
  five = ltb 0 n && eqb (outer t) kind.pointer && identical (inside t) c

  abbrev six : Bool
  six = ltb 0 n && address_coerces c t

  two-parts : (f g h : Bool) → (f && g && h) ≡ true → (g ≡ true) × (h ≡ true)
  two-parts f g h e = let b = both (f && g) h e in ((both f g b.0).1, b.1)

  knows : (l : Line) → Passed one two three four five six l → Knows l
  knows line.i e = (both (plainly t n) (identical c t) e).1
  knows line.ii e = two-parts (plainly t n) (eqb (outer c) kind.view) (identical (inside c) t) e
  knows line.iii e = (both (plainly t n) (coerces c t) e).1
  knows line.iv e = (two-parts (eqb n 1) (eqb (outer c) kind.slice_pointer) (identical c t) e).1
  knows line.v e = two-parts (ltb 0 n) (eqb (outer t) kind.pointer) (identical (inside t) c) e
  knows line.vi e = (both (ltb 0 n) (address_coerces c t) e).1
  knows line.vii e = tt

  pub known : Knows (line_of c t n)
  unfolding line_of
  known = knows (line_of c t n) (passed one two three four five six)

  module _ (P : Settled → Type 0)
      (same : identical c t ≡ true → P (settled [] c false false))
      (viewed : eqb (outer c) kind.view ≡ true → identical (inside c) t ≡ true → P (settled (step of-step.autoview 0 0 0 ∷ []) t false false))
      (coerced : coerces c t ≡ true → P (settled [] c false true))
      (pointed : eqb (outer t) kind.pointer ≡ true → identical (inside t) c ≡ true → P (by_address c false))
      (address-coerced : address_coerces c t ≡ true → P (by_address c true))
      (otherwise : line_of c t n ≡ line.vii → (s : Settled) → settle_otherwise c n (pointer_depth c) ≡ given s → P s)
      (s : Settled) where
    gives : (z : Settled) → P z → given z ≡ given s → P s
    gives z p g = subst P (given_is z s g) p

    by-line : (l : Line) → Knows l → line_of c t n ≡ l → settle_by l c t n ≡ given s → P s
    unfolding settle_by
    by-line line.i k e g = gives (settled [] c false false) (same k) g
    by-line line.ii k e g = gives (settled (step of-step.autoview 0 0 0 ∷ []) t false false) (viewed k.0 k.1) g
    by-line line.iii k e g = gives (settled [] c false true) (coerced k) g
    by-line line.iv k e g = gives (settled [] c false false) (same k) g
    by-line line.v k e g = gives (by_address c false) (pointed k.0 k.1) g
    by-line line.vi k e g = gives (by_address c true) (address-coerced k) g
    by-line line.vii k e g = otherwise e s g

    pub lines : settle c t n ≡ given s → P s
    unfolding settle
    lines g = by-line (line_of c t n) known refl g

-- what line (vii) gives: an address, or c fully dereferenced
module _ (c : List Layer) (n : ℕ) (P : Settled → Type 0)
    (addressed : n ≡ pointer_depth c + 1 → P (by_address c false))
    (fully : n ≤ pointer_depth c → eqb (outer c) kind.slice_pointer ≡ false → P (dereferenced c n (pointer_depth c)))
    (s : Settled) where
  by-slice : (f : Bool) → eqb (outer c) kind.slice_pointer ≡ f → n ≤ pointer_depth c →
      cond f (refused 10 0) (given (dereferenced c n (pointer_depth c))) ≡ given s → P s
  by-slice true e few g = absurd (not-given 10 0 s g)
  by-slice false e few g = subst P (given_is (dereferenced c n (pointer_depth c)) s g) (fully few e)

  by-address : (f : Bool) → eqb n (pointer_depth c + 1) ≡ f → leb (pointer_depth c + 2) n ≡ false →
      cond f (given (by_address c false)) (cond (eqb (outer c) kind.slice_pointer) (refused 10 0) (given (dereferenced c n (pointer_depth c)))) ≡ given s → P s
  by-address true e less g = subst P (given_is (by_address c false) s g) (addressed (eqb-true n (pointer_depth c + 1) e))
  by-address false e less g =
      by-slice (eqb (outer c) kind.slice_pointer) refl (omega (arith, leb-false (pointer_depth c + 2) n less, eqb-false n (pointer_depth c + 1) e)) g

  by-depth : (f : Bool) → leb (pointer_depth c + 2) n ≡ f →
      cond f (refused 9 0)
      (cond (eqb n (pointer_depth c + 1)) (given (by_address c false))
      (cond (eqb (outer c) kind.slice_pointer) (refused 10 0) (given (dereferenced c n (pointer_depth c))))) ≡ given s → P s
  by-depth true e g = absurd (not-given 9 0 s g)
  by-depth false e g = by-address (eqb n (pointer_depth c + 1)) refl e g

  pub seventh : settle_otherwise c n (pointer_depth c) ≡ given s → P s
  unfolding settle_otherwise
  seventh g = by-depth (leb (pointer_depth c + 2) n) refl g
