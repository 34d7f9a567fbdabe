-- What the layer counts of a sheet come to.
-- Assumes nothing.
use mathlib.Core.Path.{◌≡◌, refl, sym, ◌∙◌}
use mathlib.Core.Bool.{Bool, true, false, cond, ◌&&◌}
use mathlib.Core.List.{List, [], ◌∷◌}
use Prim.Native.Nat.{ℕ, zero, suc, ◌+◌, ◌*◌, ◌≤◌, ◌<◌}
use native.Mathlib.Nat.{add-zero, add_assoc}
use native.Mathlib.Omega.{arith}
use native.Mathlib.Numerals.{add-one}
use lib.Dec.{leb}
use lib.ListN.{length, take, drop, get_or, drop_of_length-le}
use lib.Seq.{drop-cons}
use borrow.Author.Tests.{leb-true}
use Rattle.std.specs.Prelude.{Some, None}
use Rattle.type_layers.proofs.Decide.{both}
use Rattle.sheet_contents.specs.Contents.{up_to, good_counts, total, layers_of}

-- a good count is at most its limit, and not 0
module _ (most n : ℕ) (e : up_to most n ≡ true) where
  pub at_least : 1 ≤ n
  at_least = leb-true 1 n (both (leb 1 n) (leb n most) e).0

  pub at_most : n ≤ most
  at_most = leb-true n most (both (leb 1 n) (leb n most) e).1

-- what the loop knows before the count at i
pub record Summed (cs : List ℕ) (sum i : ℕ) : Type 0 where
  pub few : sum ≤ 16 * i
  pub rest : cond (good_counts (drop i cs)) (Some (sum + total (drop i cs))) None ≡ layers_of cs

module _ (cs : List ℕ) (sum i : ℕ) (p : Summed cs sum i) where
  module _ (h : i < length cs) (t : Bool) (e : t ≡ up_to 16 (get_or cs i 0)) where
    open-rest : cond (up_to 16 (get_or cs i 0) && good_counts (drop (suc i) cs)) (Some (sum + (get_or cs i 0 + total (drop (suc i) cs)))) None ≡ layers_of cs
    unfolding good_counts total
    open-rest = rw (drop-cons cs i 0 h) at p.rest

    pub bad-count : t ≡ false → None ≡ layers_of cs
    bad-count f = rw (sym e ∙ f) at open-rest

    pub good-count : t ≡ true → Summed cs (sum + get_or cs i 0) (i + 1)
    good-count f =
        let small : get_or cs i 0 ≤ 16 = at_most 16 (get_or cs i 0) (sym e ∙ f) in
        record {
          few = omega (arith, p.few, small);
          rest = rw (add-one, add_assoc) (rw (sym e ∙ f) at open-rest);
        }

  pub summed : length cs ≤ i → Some sum ≡ layers_of cs
  unfolding good_counts total
  summed h = rw (drop_of_length-le cs h, add-zero) at p.rest

-- good counts are none of them 0
pub total-positive : (cs : List ℕ) → good_counts cs ≡ true → length cs ≤ total cs
unfolding good_counts total
total-positive [] e = omega arith
total-positive (c ∷ cs) e =
    let p = both (up_to 16 c) (good_counts cs) e in
    omega (arith, at_least 16 c p.0, total-positive cs p.1)

-- a run of good counts that is cut short
pub good-front : (k : ℕ) (cs : List ℕ) → good_counts cs ≡ true → good_counts (take k cs) ≡ true
unfolding good_counts
good-front zero cs e = refl
good-front (suc k) [] e = refl
good-front (suc k) (c ∷ cs) e = let p = both (up_to 16 c) (good_counts cs) e in rw (p.0, good-front k cs p.1)

pub good-at : (k : ℕ) (cs : List ℕ) → good_counts cs ≡ true → k < length cs → get_or cs k 0 ≤ 16
unfolding good_counts
good-at k [] e h = absurd (omega arith)
good-at zero (c ∷ cs) e h = at_most 16 c (both (up_to 16 c) (good_counts cs) e).0
good-at (suc k) (c ∷ cs) e h = good-at k cs (both (up_to 16 c) (good_counts cs) e).1 (omega arith)

-- what stands before one count, that count, and all counts
pub total-front : (k : ℕ) (cs : List ℕ) → k < length cs → total (take k cs) + get_or cs k 0 ≤ total cs
unfolding total
total-front k [] h = absurd (omega arith)
total-front zero (c ∷ cs) h = omega arith
total-front (suc k) (c ∷ cs) h = omega (arith, total-front k cs (omega arith))

pub total-few : (cs : List ℕ) → good_counts cs ≡ true → total cs ≤ 16 * length cs
unfolding good_counts total
total-few [] e = omega arith
total-few (c ∷ cs) e =
    let p = both (up_to 16 c) (good_counts cs) e in
    omega (arith, at_most 16 c p.0, total-few cs p.1)
