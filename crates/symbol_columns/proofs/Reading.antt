-- Records read out of columns.
-- Assumes nothing.
use mathlib.Core.Path.{◌≡◌, refl, sym, ap, ◌∙◌}
use mathlib.Core.List.{List, [], ◌∷◌, ◌++◌}
use Prim.Native.Nat.{ℕ, zero, suc, ◌+◌, ◌-◌, ◌<◌, ◌≤◌}
use native.Mathlib.Nat.{zero-add, not-suc-le-zero}
use native.Mathlib.Numerals.{add-one}
use native.Mathlib.Omega.{arith}
use lib.ListN.{length, get_or}
use borrow.Author.Tests.{lt-ltb}
use Rattle.symbol_columns.specs.Record.{vacant}
use Rattle.symbol_columns.specs.AsCoded.{row_at, read_from, under, row_under}
use Rattle.symbol_columns.specs.declared.symbol.Symbol.{Symbol}

-- the records from i on, of n
abbrev pub from : List ℕ → ℕ → ℕ → List Symbol
from ws n i = read_from ws i (n - i)

-- the records from a row on: one and the rest, or none
pub read_more : (ws : List ℕ) (n i : ℕ) → i < n →
    read_from ws i (n - i) ≡ row_at ws i ∷ read_from ws (i + 1) (n - (i + 1))
unfolding read_from
read_more ws n i h =
    let e : n - i ≡ suc (n - (i + 1)) = omega arith in
    ap (read_from ws i) e ∙ ap (λ (k : ℕ). row_at ws i ∷ read_from ws k (n - (i + 1))) (sym (add-one i))

pub read-end : (ws : List ℕ) (n i : ℕ) → n ≤ i → read_from ws i (n - i) ≡ []
unfolding read_from
read-end ws n i h =
    let e : n - i ≡ 0 = omega arith in
    ap (read_from ws i) e

pub read_all : (ws : List ℕ) (n : ℕ) → read_from ws 0 (n - 0) ≡ read_from ws 0 n
read_all ws n =
    let e : n - 0 ≡ n = omega arith in
    ap (read_from ws 0) e

pub length-read : (ws : List ℕ) (i n : ℕ) → length (read_from ws i n) ≡ n
unfolding read_from
length-read ws i zero = refl
length-read ws i (suc n) = ap suc (length-read ws (suc i) n)

pub get_or_read : (ws : List ℕ) (i n k : ℕ) → k < n → get_or (read_from ws i n) k vacant ≡ row_at ws (i + k)
unfolding read_from
get_or_read ws i zero k h = absurd (not-suc-le-zero h)
get_or_read ws i (suc n) zero h =
    let e : i ≡ i + 0 = omega arith in
    ap (row_at ws) e
get_or_read ws i (suc n) (suc k) h =
    let e : suc i + k ≡ i + suc k = omega arith in
    get_or_read ws (suc i) n k (omega arith) ∙ ap (row_at ws) e

last_row : (ws : List ℕ) (i k : ℕ) → read_from ws i (suc k) ≡ read_from ws i k ++ (row_at ws (i + k) ∷ [])
unfolding read_from
last_row ws i zero =
    let e : i ≡ i + 0 = omega arith in
    ap (λ (j : ℕ). row_at ws j ∷ []) e
last_row ws i (suc k) =
    let e : suc i + k ≡ i + suc k = omega arith in
    ap (λ (l : List Symbol). row_at ws i ∷ l) (last_row ws (suc i) k ∙ ap (λ (j : ℕ). read_from ws (suc i) k ++ (row_at ws j ∷ [])) e)

pub read-last : (ws : List ℕ) (i k : ℕ) → read_from ws i (k + 1) ≡ read_from ws i k ++ (row_at ws (i + k) ∷ [])
read-last ws i k = ap (read_from ws i) (add-one k) ∙ last_row ws i k

-- a row under its own id is its record
pub row-found : (flat : List ℕ) (n id k : ℕ) (s : Symbol) → n ≤ 128 → k < n → (get_or (read_from flat 0 n) k vacant).id ≡ id →
    s ≡ row_under flat k id → s ≡ get_or (read_from flat 0 n) k vacant
unfolding row_under row_at
row-found flat n id k s few h has q =
    let below : k < 128 = omega arith in
    let here = get_or_read flat 0 n k h ∙ ap (row_at flat) (zero-add k) in
    let same : get_or flat k 0 ≡ id = sym (ap (λ (x : Symbol). x.id) here) ∙ has in
    (rw (lt-ltb k 128 below) at q) ∙ (λ t. under (sym same t) (row_at flat k)) ∙ sym here
