-- How the answers for two widths stand to each other.
-- Assumes nothing.
use mathlib.Core.Path.{◌≡◌, refl, sym, ◌∙◌}
use mathlib.Core.Bool.{Bool, true, false, cond}
use mathlib.Core.List.{List, [], ◌∷◌}
use Prim.Native.Nat.{ℕ, ◌*◌, ◌-◌, ◌^◌, ◌≤◌}
use native.Mathlib.Omega.{arith}
use native.Mathlib.Nat.{mul-le-mul_left}
use lib.Dec.{eqb, ltb}
use borrow.Author.Tests.{ltb-false, le-ltb}
use Rattle.type_numbers.specs.Kind as kind
use Rattle.type_numbers.specs.Refusal as refusal
use Rattle.type_layers.specs.Layers.{Layer, layers}
use Rattle.type_layers.specs.Answer.{Answer, given, nothing, refused, is_given, next}
use Rattle.type_layers.proofs.Given.{not-given, nothing-given, given_is}
use Rattle.type_checks.specs.Check.{check_of}
use Rattle.type_checks.proofs.Refusals.{is_refused, behind, instead, passed}
use Rattle.type_size_and_depth.specs.Known.{known_of}
use Rattle.type_stored_size.specs.StoredSize.{width_answer, has_one_width, has_two_widths, product, times, stored_size, stored_size_answer}

-- a relation between the answers for two widths holds of every type, if it holds of each layer
module _ (R : Answer ℕ → Answer ℕ → Type 0) (same : (x : Answer ℕ) → R x x) (array : (n : ℕ) (x y : Answer ℕ) → R x y → R (times n x) (times n y))
    (v w : ℕ) (one : R (given v) (given w)) (two : R (given (2 * v)) (given (2 * w))) where
  between : (a : List Layer) → R (stored_size v a) (stored_size w a)
  unfolding stored_size
  between [] = same nothing
  between (x ∷ a) =
      by_tests (array x.number (stored_size v a) (stored_size w a) (between a)) (eqb x.kind kind.array) (has_one_width x.kind) (has_two_widths x.kind) refl refl refl
    where
      by_tests : R (times x.number (stored_size v a)) (times x.number (stored_size w a)) →
          (r s t : Bool) → eqb x.kind kind.array ≡ r → has_one_width x.kind ≡ s → has_two_widths x.kind ≡ t →
          R (stored_size v (x ∷ a)) (stored_size w (x ∷ a))
      by_tests h true s t e f g = rw e h
      by_tests h false true t e f g = rw (e, f) one
      by_tests h false false true e f g = rw (e, f, g) two
      by_tests h false false false e f g = rw (e, f, g) (same (known_of x.kind x.number))

-- where the second is a size, the first is one and not above it
abbrev Below : Answer ℕ → Answer ℕ → Type 0
Below x y = (n : ℕ) → y ≡ given n → (m : ℕ) × ((x ≡ given m) × (m ≤ n))

-- a product that is a size
product-given : (n m k : ℕ) → product n m ≡ given k → (n * m ≡ k) × (n * m ≤ 2 ^ 64 - 1)
product-given n m k e = by-test (ltb (2 ^ 64 - 1) (n * m)) refl e
  where
    by-test : (t : Bool) → ltb (2 ^ 64 - 1) (n * m) ≡ t → cond t (refused refusal.size_too_large 0) (given (n * m)) ≡ given k →
        (n * m ≡ k) × (n * m ≤ 2 ^ 64 - 1)
    by-test true p q = absurd (not-given 17 0 k q)
    by-test false p q = (given_is (n * m) k q, ltb-false (2 ^ 64 - 1) (n * m) p)

below-array : (n : ℕ) (x y : Answer ℕ) → Below x y → Below (times n x) (times n y)
below-array n x nothing b k e = absurd (nothing-given k e)
below-array n x (refused i p) b k e = absurd (not-given i p k e)
below-array n x (given j) b k e =
    let l = b j refl in
    let p = product-given n j k e in
    let less : n * l.0 ≤ n * j = mul-le-mul_left {m = l.0} {n = j} n l.1.1 in
    (n * l.0, (rw (l.1.0, le-ltb (2 ^ 64 - 1) (n * l.0) (omega (arith, less, p.1))), omega (arith, less, p.0)))

pub not-above : (v w : ℕ) → v ≤ w → (a : List Layer) → Below (stored_size v a) (stored_size w a)
not-above v w h = between Below (λ x n e. (n, (e, omega arith))) below-array v w (given_below v w h) (given_below (2 * v) (2 * w) (omega (arith, h)))
  where
    given_below : (i j : ℕ) → i ≤ j → Below (given i) (given j)
    given_below i j l n e = (i, (refl, omega (arith, l, given_is j n e)))

-- no size stays no size
abbrev None : Answer ℕ → Answer ℕ → Type 0
None x y = x ≡ nothing → y ≡ nothing

none-array : (n : ℕ) (x y : Answer ℕ) → None x y → None (times n x) (times n y)
none-array n nothing y b e = rw (b refl)
none-array n (refused i p) y b e = cc
none-array n (given m) y b e = by-test (ltb (2 ^ 64 - 1) (n * m)) e
  where
    by-test : (t : Bool) → cond t (refused refusal.size_too_large 0) (given (n * m)) ≡ nothing → times n y ≡ nothing
    by-test true q = cc
    by-test false q = absurd (nothing-given (n * m) (sym q))

pub none_stays : (v w : ℕ) (a : List Layer) → None (stored_size v a) (stored_size w a)
none_stays v w = between None (λ x e. e) none-array v w (λ e. absurd (nothing-given v (sym e))) (λ e. absurd (nothing-given (2 * v) (sym e)))

-- an answer that is no refusal, by what stands behind the checks
module _ (ws : List ℕ) (e : Answer ℕ) (h : is_refused e ≡ false) where
  pub size-told : (w : ℕ) → stored_size_answer w ws ≡ e → stored_size w (layers ws) ≡ e
  unfolding stored_size_answer
  size-told w q = behind e h (stored_size w (layers ws)) (width_answer w) (behind e h (next (width_answer w) (stored_size w (layers ws))) (check_of ws) q)

  pub other_width : (v w : ℕ) → is_given (width_answer v) ≡ true → stored_size_answer w ws ≡ e → stored_size_answer v ws ≡ stored_size v (layers ws)
  unfolding stored_size_answer
  other_width v w g q =
      instead e h (next (width_answer w) (stored_size w (layers ws))) (next (width_answer v) (stored_size v (layers ws))) (check_of ws) q
      ∙ passed (width_answer v) (stored_size v (layers ws)) g
