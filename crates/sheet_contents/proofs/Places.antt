-- Where the words of a type stand.
-- Assumes nothing.
use mathlib.Core.Path.{◌≡◌, refl, sym, ◌∙◌}
use mathlib.Core.Bool.{Bool, true, false, cond}
use mathlib.Core.List.{List, [], ◌∷◌}
use Prim.Native.Nat.{ℕ, zero, suc, ◌+◌, ◌*◌, ◌-◌, ◌^◌, ◌≤◌, ◌<◌}
use native.Mathlib.Omega.{arith}
use lib.ListN.{length, take, drop, get_or, get_or-eq_default}
use lib.Seq.{take-take, drop-drop, get_or-take, get_or-drop}
use Rattle.std.specs.Prelude.{Option, Some, None}
use Rattle.std.specs.Option.{unwrap_or}
use Rattle.sheet_contents.specs.Contents.{total, layers_of, is_sheet, count, layer_counts, types_in, bodies, types, type_at}
use Rattle.sheet_contents.proofs.Counts.{good-front, total-front, total-positive, total-few, good-at}
use Rattle.sheet_contents.proofs.Shape.{length-counts, Sheet, sheet-known}

pub length-bodies : (cs ws : List ℕ) → length (bodies cs ws) ≡ length cs
unfolding bodies
length-bodies [] ws = refl
length-bodies (c ∷ cs) ws = rw (length-bodies cs (drop (3 * c) ws))

body_is : (k : ℕ) (cs ws : List ℕ) → k < length cs → get_or (bodies cs ws) k [] ≡ take (3 * get_or cs k 0) (drop (3 * total (take k cs)) ws)
unfolding bodies total
body_is k [] ws h = absurd (omega arith)
body_is zero (c ∷ cs) ws h = refl
body_is (suc k) (c ∷ cs) ws h =
    let e : 3 * c + 3 * total (take k cs) ≡ 3 * (c + total (take k cs)) = omega arith in
    body_is k cs (drop (3 * c) ws) (omega arith) ∙ rw (drop-drop, e)

-- so many types a sheet has
pub how-many : (ws : List ℕ) → length (types ws) ≡ unwrap_or (types_in ws) 0
unfolding types
how-many ws = by-test (is_sheet ws) refl
  where
    by-test : (t : Bool) → is_sheet ws ≡ t →
        length (cond t (bodies (layer_counts ws) (drop (1 + count ws) ws)) []) ≡ unwrap_or (cond t (Some (count ws)) None) 0
    by-test false e = refl
    by-test true e =
        length-bodies (layer_counts ws) (drop (1 + count ws) ws)
        ∙ length-counts (count ws) ws (omega (arith, (sheet-known ws e).whole))

-- where there are types there is a sheet
module _ (ws : List ℕ) (n : ℕ) (e : Some n ≡ types_in ws) where
  pub a-sheet : is_sheet ws ≡ true
  a-sheet = by-test (is_sheet ws) e
    where
      by-test : (t : Bool) → Some n ≡ cond t (Some (count ws)) None → t ≡ true
      by-test true h = refl
      by-test false h = cc

  pub number : n ≡ count ws
  number = let f : Some n ≡ Some (count ws) = e ∙ rw a-sheet in cc

pub none-there : (ws : List ℕ) (k : ℕ) → None ≡ types_in ws → [] ≡ type_at k ws
none-there ws k e = sym (get_or-eq_default (types ws) [] (rw (how-many ws, sym e) (omega arith)))

module _ (ws : List ℕ) (k n : ℕ) (e : Some n ≡ types_in ws) where
  pub no-type : n ≤ k → [] ≡ type_at k ws
  no-type h = sym (get_or-eq_default (types ws) [] (rw (how-many ws, sym e) h))

  module _ (h : k < n) where
    is : is_sheet ws ≡ true
    is = a-sheet ws n e

    sheet : Sheet ws
    sheet = sheet-known ws is

    many : n ≡ count ws
    many = number ws n e

    here : k < count ws
    here = rw (sym many) h

    long : length (layer_counts ws) ≡ count ws
    long = length-counts (count ws) ws (omega (arith, sheet.whole))

    -- the count of type k stands behind the number of types
    own : get_or ws (k + 1) 0 ≡ get_or (layer_counts ws) k 0
    own =
        let f : 1 + k ≡ k + 1 = omega arith in
        sym (get_or-take (count ws) (drop 1 ws) k 0 here ∙ get_or-drop 1 ws k 0 ∙ rw f)

    pub counted : k + 1 < length ws
    counted = omega (arith, sheet.whole, here, total-positive (layer_counts ws) sheet.good, long)

    pub counted-to : k + 1 ≤ length ws
    counted-to = omega (arith, counted)

    small : 3 * get_or ws (k + 1) 0 ≤ 48
    small = omega (arith, own, good-at k (layer_counts ws) sheet.good (rw long here))

    pub small-fits : 3 * get_or ws (k + 1) 0 < 2 ^ 64
    small-fits = omega (arith, small)

    -- the counts before
    before-is : take (k + 1 - 1) (drop 1 ws) ≡ take k (layer_counts ws)
    before-is =
        let f : k + 1 - 1 ≡ k = omega arith in
        rw f (sym (take-take k (count ws) (drop 1 ws) (omega (arith, here))))

    pub good-before : layers_of (take (k + 1 - 1) (drop 1 ws)) ≡ Some (total (take k (layer_counts ws)))
    good-before = rw (before-is, good-front k (layer_counts ws) sheet.good)

    module _ (r : Option ℕ) (m : ℕ) (g : r ≡ layers_of (take (k + 1 - 1) (drop 1 ws))) (q : r ≡ Some m) where
      before : m ≡ total (take k (layer_counts ws))
      before = let f : Some m ≡ Some (total (take k (layer_counts ws))) = sym q ∙ (g ∙ good-before) in cc

      pub end_fits : n ≤ 32 → 1 + n + 3 * m + 3 * get_or ws (k + 1) 0 < 2 ^ 64
      end_fits few = omega (arith, small, before, sheet.few, total-few (layer_counts ws) sheet.good, total-front k (layer_counts ws) (rw long here), long)

      pub in-the-sheet : 1 + n + 3 * m + 3 * get_or ws (k + 1) 0 ≤ length ws
      in-the-sheet =
          omega (arith, many, before, own, sheet.whole, total-front k (layer_counts ws) (rw long here))

      pub type-is : take (1 + n + 3 * m + 3 * get_or ws (k + 1) 0 - (1 + n + 3 * m)) (drop (1 + n + 3 * m) ws) ≡ type_at k ws
      unfolding types
      type-is =
          let size : 1 + n + 3 * m + 3 * get_or ws (k + 1) 0 - (1 + n + 3 * m) ≡ 3 * get_or (layer_counts ws) k 0 = omega (arith, own) in
          let start : 1 + n + 3 * m ≡ 1 + count ws + 3 * total (take k (layer_counts ws)) = omega (arith, many, before) in
          rw (size, start, is) (sym (body_is k (layer_counts ws) (drop (1 + count ws) ws) (rw long here) ∙ rw drop-drop))

-- a sheet has at most 1569 words
pub sheet-short : (ws : List ℕ) → is_sheet ws ≡ true → length ws ≤ 1569
sheet-short ws e =
    let s = sheet-known ws e in
    let n = length-counts (count ws) ws (omega (arith, s.whole)) in
    omega (arith, s.whole, s.few, n, total-few (layer_counts ws) s.good)
