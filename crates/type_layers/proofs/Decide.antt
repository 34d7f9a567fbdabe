-- A decision, by its test.
-- Assumes nothing.
use mathlib.Core.Path.{◌≡◌, refl, sym, ◌∙◌}
use mathlib.Core.Bool.{Bool, true, false, cond, ◌&&◌, ◌||◌, true≢false, false≢true}
use Prim.Native.Nat.{ℕ}
use lib.Dec.{eqb}
use borrow.Author.Tests.{eq-eqb, ne_eqb, eqb-true, eqb-false}

pub yes : {A : Type 0} (f : Bool) (r x y : A) → f ≡ true → r ≡ x → r ≡ cond f x y
yes true r x y f e = e
yes false r x y f e = absurd (false≢true f)

pub no : {A : Type 0} (f : Bool) (r x y : A) → f ≡ false → r ≡ y → r ≡ cond f x y
no true r x y f e = absurd (true≢false f)
no false r x y f e = e

-- the same, where the code holds the test's outcome
pub yes-by : {A : Type 0} (f g : Bool) (r x y : A) → g ≡ f → g ≡ true → r ≡ x → r ≡ cond f x y
yes-by f g r x y p q e = yes f r x y (sym p ∙ q) e

pub no-by : {A : Type 0} (f g : Bool) (r x y : A) → g ≡ f → g ≡ false → r ≡ y → r ≡ cond f x y
no-by f g r x y p q e = no f r x y (sym p ∙ q) e

-- both of two tests
pub both : (u v : Bool) → (u && v) ≡ true → (u ≡ true) × (v ≡ true)
both true v e = (refl, e)
both false v e = absurd (false≢true e)

-- neither of two tests
pub neither : (u v : Bool) → (u || v) ≡ false → (u ≡ false) × (v ≡ false)
neither true v e = absurd (true≢false e)
neither false v e = (refl, e)

-- whether two numbers are equal, asked the other way round
pub eqb-sym : (k l : ℕ) → eqb k l ≡ eqb l k
eqb-sym k l = by-test (eqb l k) refl
  where
    by-test : (t : Bool) → eqb l k ≡ t → eqb k l ≡ t
    by-test true e = eq-eqb k l (sym (eqb-true l k e))
    by-test false e = ne_eqb k l (λ q. eqb-false l k e (sym q))

-- both of two tests, where the code holds the outcome of each
pub both_of : (a b x y : Bool) → a ≡ x → b ≡ y → (a && b) ≡ (x && y)
both_of a b x y p q = rw (p, q)

-- one of two or three tests, where the code holds the outcome of each
pub either-of : (a b x y : Bool) → a ≡ x → b ≡ y → (a || b) ≡ (x || y)
either-of a b x y p q = rw (p, q)

pub one_of : (a b c x y z : Bool) → a ≡ x → b ≡ y → c ≡ z → (a || b || c) ≡ (x || y || z)
one_of a b c x y z p q r = either-of (a || b) c (x || y) z (either-of a b x y p q) r
