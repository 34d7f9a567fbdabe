-- When words are a sheet.
-- Assumes nothing.
use mathlib.Core.Path.{◌≡◌, refl, sym, ◌∙◌}
use mathlib.Core.Bool.{Bool, true, false, cond, ◌&&◌}
use mathlib.Core.List.{List, [], ◌∷◌}
use Prim.Native.Nat.{ℕ, ◌+◌, ◌*◌, ◌-◌, ◌≤◌, ◌<◌}
use native.Mathlib.Omega.{arith}
use mathlib.Core.Logic.{◌⊎◌, inl, inr}
use lib.Dec.{eqb}
use lib.ListN.{length, take, drop, length-drop}
use lib.Seq.{length-take-le}
use borrow.Author.Tests.{eqb-true, eqb-false, ne_eqb, eq-eqb}
use Rattle.std.specs.Prelude.{Some, None}
use Rattle.std.specs.Bool.{then_some}
use Rattle.type_layers.proofs.Decide.{both}
use Rattle.type_layers.proofs.Words.{part, part-is}
use Rattle.sheet_contents.specs.Contents.{up_to, good_counts, total, layers_of, is_sheet, types_in, count, layer_counts}
use Rattle.sheet_contents.proofs.Counts.{at_least, at_most}

pub length-counts : (n : ℕ) (ws : List ℕ) → n < length ws → length (take n (drop 1 ws)) ≡ n
length-counts n ws h = length-take-le n (drop 1 ws) (rw (length-drop 1 ws) (omega arith))

-- words that are no sheet
none : (ws : List ℕ) → is_sheet ws ≡ false → None ≡ types_in ws
none ws e = rw e

pub no_words : (ws : List ℕ) → length ws < 1 → None ≡ types_in ws
unfolding is_sheet
no_words [] e = refl
no_words (w ∷ ws) e = absurd (omega arith)

and-false : (u v w : Bool) → w ≡ false → (u && v && w) ≡ false
and-false true true w e = e
and-false true false w e = refl
and-false false v w e = refl

module _ (ws : List ℕ) where
  size : length (part ws 1) ≡ length ws - 1
  size = rw (part-is ws 1) (length-drop 1 ws)

  -- the layer counts as the code takes them
  pub counts : (cs : List ℕ) → cs ≡ take (count ws - 0) (part ws 1) → cs ≡ layer_counts ws
  counts cs e = let n : count ws - 0 ≡ count ws = omega arith in e ∙ rw (part-is ws 1, n)

  pub bad-number : (t : Bool) → t ≡ up_to 32 (count ws) → t ≡ false → None ≡ types_in ws
  unfolding is_sheet
  bad-number t e f = none ws (rw (sym e ∙ f))

  pub too_few : 1 ≤ length ws → (count ws < 0) ⊎ (length (part ws 1) < count ws) → None ≡ types_in ws
  unfolding is_sheet
  too_few k (inl h) = absurd (omega arith)
  too_few k (inr h) =
      none ws
      (and-false (up_to 32 (count ws)) (good_counts (layer_counts ws)) (eqb (length ws) (1 + count ws + 3 * total (layer_counts ws)))
      (ne_eqb (length ws) (1 + count ws + 3 * total (layer_counts ws)) (λ e. omega (arith, size))))

  module _ (t : Bool) (e : t ≡ up_to 32 (count ws)) (f : t ≡ true) where
    pub few : count ws ≤ 32
    few = at_most 32 (count ws) (sym e ∙ f)

    module _ (cs : List ℕ) (g : cs ≡ layer_counts ws) where
      pub bad-counts : None ≡ layers_of cs → None ≡ types_in ws
      unfolding is_sheet
      bad-counts h = by-test (good_counts (layer_counts ws)) (rw g at h)
        where
          by-test : (u : Bool) → None ≡ cond u (Some (total (layer_counts ws))) None →
              None ≡ cond (up_to 32 (count ws) && u && eqb (length ws) (1 + count ws + 3 * total (layer_counts ws))) (Some (count ws)) None
          by-test true k = cc
          by-test false k = rw (sym e ∙ f)

      -- where no word is missing or left over
      pub all_there : (m : ℕ) → Some m ≡ layers_of cs → 1 ≤ length ws →
          then_some (eqb (length (part ws 1)) (count ws + 3 * m)) (count ws) ≡ types_in ws
      unfolding is_sheet
      all_there m h l = by-test (good_counts (layer_counts ws)) (rw g at h)
        where
          by-test : (u : Bool) → Some m ≡ cond u (Some (total (layer_counts ws))) None →
              then_some (eqb (length (part ws 1)) (count ws + 3 * m)) (count ws)
              ≡ cond (up_to 32 (count ws) && u && eqb (length ws) (1 + count ws + 3 * total (layer_counts ws))) (Some (count ws)) None
          by-test false k = cc
          by-test true k =
              let n : m ≡ total (layer_counts ws) = cc in
              rw (sym e ∙ f, n) (by-size (eqb (length (part ws 1)) (count ws + 3 * total (layer_counts ws))) refl)
            where
              by-size : (v : Bool) → eqb (length (part ws 1)) (count ws + 3 * total (layer_counts ws)) ≡ v →
                  then_some v (count ws) ≡ cond (eqb (length ws) (1 + count ws + 3 * total (layer_counts ws))) (Some (count ws)) None
              by-size true q =
                  let s = eqb-true (length (part ws 1)) (count ws + 3 * total (layer_counts ws)) q in
                  rw (eq-eqb (length ws) (1 + count ws + 3 * total (layer_counts ws)) (omega (arith, size, s)))
              by-size false q =
                  let s = eqb-false (length (part ws 1)) (count ws + 3 * total (layer_counts ws)) q in
                  rw (ne_eqb (length ws) (1 + count ws + 3 * total (layer_counts ws)) (λ p. s (omega (arith, size, p))))

-- what is known of a sheet
pub record Sheet (ws : List ℕ) : Type 0 where
  pub some : 1 ≤ count ws
  pub few : count ws ≤ 32
  pub good : good_counts (layer_counts ws) ≡ true
  pub whole : length ws ≡ 1 + count ws + 3 * total (layer_counts ws)

pub sheet-known : (ws : List ℕ) → is_sheet ws ≡ true → Sheet ws
unfolding is_sheet
sheet-known ws e =
    let p = both (up_to 32 (count ws) && good_counts (layer_counts ws)) (eqb (length ws) (1 + count ws + 3 * total (layer_counts ws))) e in
    let q = both (up_to 32 (count ws)) (good_counts (layer_counts ws)) p.0 in
    record {
      some = at_least 32 (count ws) q.0;
      few = at_most 32 (count ws) q.0;
      good = q.1;
      whole = eqb-true (length ws) (1 + count ws + 3 * total (layer_counts ws)) p.1;
    }
