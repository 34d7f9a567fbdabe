-- A rule of a table, proved at all of its entries by one test that is computed, one entry after the other.
-- Assumes nothing.
use mathlib.Core.Path.{◌∙◌, subst, sym}
use mathlib.Core.Bool.{Bool, true, false}
use mathlib.Core.List.{List, [], ◌∷◌}
use Prim.Native.Nat.{ℕ, zero, suc, ◌+◌, ◌<◌}
use native.Mathlib.Nat.{add-zero, zero-add, add-suc, suc-add, le_of_suc-le-suc, not-suc-le-zero}
use lib.Dec.{T}
use lib.ListN.{length, get_or}

abbrev both : Bool → Bool → Bool
both true b = b
both false b = false

left : (a b : Bool) → T (both a b) → T a
left true b t = tt
left false b t = t

right : (a b : Bool) → T (both a b) → T b
right true b t = t
right false b t = absurd t

-- the test passes at each entry and its place, counted from i
abbrev pub every : {A : Type 0} → (ℕ → A → Bool) → ℕ → List A → Bool
every f i [] = true
every f i (x ∷ xs) = both (f i x) (every f (suc i) xs)

from : {A : Type 0} (f : ℕ → A → Bool) (d : A) (xs : List A) (i : ℕ) → T (every f i xs) → (k : ℕ) → k < length xs → T (f (i + k) (get_or xs k d))
from f d [] i t k h = absurd (not-suc-le-zero h)
from {A} f d (x ∷ xs) i t zero h =
    subst (λ (m : ℕ). T (f m x)) (sym (add-zero i)) (left (f i x) (every f (suc i) xs) t)
from {A} f d (x ∷ xs) i t (suc k) h =
    subst (λ (m : ℕ). T (f m (get_or xs k d))) (suc-add i k ∙ sym (add-suc i k))
    (from f d xs (suc i) (right (f i x) (every f (suc i) xs) t) k (le_of_suc-le-suc h))

pub at : {A : Type 0} (f : ℕ → A → Bool) (d : A) (xs : List A) → T (every f 0 xs) → (k : ℕ) → k < length xs → T (f k (get_or xs k d))
at f d xs t k h = subst (λ (m : ℕ). T (f m (get_or xs k d))) (zero-add k) (from f d xs 0 t k h)
