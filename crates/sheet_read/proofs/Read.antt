-- What is known of bytes that were read.
-- Assumes nothing.
use mathlib.Core.Path.{◌≡◌, refl, sym, ap, ◌∙◌}
use mathlib.Core.Bool.{Bool, true, false, cond}
use mathlib.Core.List.{List, [], ◌∷◌}
use Prim.Native.Nat.{ℕ, ◌/◌, ◌%◌, ◌≤◌, ◌<◌}
use native.Mathlib.Omega.{arith}
use lib.Dec.{eqb}
use lib.ListN.{length}
use borrow.Author.Tests.{eqb-true}
use Rattle.std.specs.Option.{unwrap_or}
use Rattle.type_layers.specs.Answer.{Answer, given, nothing, refused, next}
use Rattle.type_checks.specs.Check.{Place, at, nowhere, unless, bad_count, bad_layer, misplaced, check_of}
use Rattle.type_layers.specs.Layers.{layers}
use Rattle.type_layers.proofs.Given.{not-given, given_is}
use Rattle.sheet_words.specs.Little.{whole_words}
use Rattle.sheet_contents.specs.Contents.{is_sheet, count, types_in, types}
use Rattle.sheet_read.specs.Sheet.{check_all, bad_sheet, read_words, read_sheet}
use Rattle.sheet_words.proofs.Decoding.{length-words}
use Rattle.sheet_contents.proofs.Shape.{sheet-known}
use Rattle.sheet_contents.proofs.Places.{how-many, sheet-short}

abbrev number : Answer ℕ → ℕ
number (given v) = 0
number nothing = 0
number (refused n p) = n

-- the numbers of a type's refusals
few-numbers : (t : List ℕ) → number (check_of t) ≤ 3
unfolding check_of
few-numbers t = by-checks (bad_count (length t)) (bad_layer 0 (layers t)) (misplaced 0 (layers t))
  where
    by-checks : (c : Bool) (l m : Place) → number (cond c (refused 1 0) (unless l 2 (unless m 3 (given (length t / 3))))) ≤ 3
    by-checks true l m = omega arith
    by-checks false (at p) m = omega arith
    by-checks false nowhere (at p) = omega arith
    by-checks false nowhere nowhere = omega arith

few-numbers-all : (n : ℕ) (ts : List (List ℕ)) → number (check_all ts (given n)) ≤ 3
unfolding check_all
few-numbers-all n [] = omega arith
few-numbers-all n (t ∷ ts) = by-check (check_of t) (few-numbers t) (few-numbers-all n ts)
  where
    by-check : (c : Answer ℕ) → number c ≤ 3 → number (check_all ts (given n)) ≤ 3 → number (next c (check_all ts (given n))) ≤ 3
    by-check (given v) h k = k
    by-check nothing h k = k
    by-check (refused m p) h k = h

-- what all types passed is given
passed : (n v : ℕ) (ts : List (List ℕ)) → check_all ts (given n) ≡ given v → v ≡ n
unfolding check_all
passed n v [] e = sym (given_is n v e)
passed n v (t ∷ ts) e = by-check (check_of t) e (passed n v ts)
  where
    by-check : (c : Answer ℕ) → next c (check_all ts (given n)) ≡ given v → (check_all ts (given n) ≡ given v → v ≡ n) → v ≡ n
    by-check (given w) h k = k h
    by-check nothing h k = k h
    by-check (refused m p) h k = absurd (not-given m p v h)

module _ (bs : List ℕ) where
  abbrev answer : Bool → Bool → Answer ℕ
  answer u t = cond u (cond t (check_all (types (whole_words bs)) (given (count (whole_words bs)))) bad_sheet) bad_sheet

  read_is : read_sheet bs ≡ answer (eqb (length bs % 8) 0) (is_sheet (whole_words bs))
  unfolding read_sheet read_words
  read_is = refl

  -- the number of a refusal has two digits at most
  pub small-number : (m p : ℕ) → refused m p ≡ read_sheet bs → m < 100
  small-number m p e = omega (arith, by_tests (eqb (length bs % 8) 0) (is_sheet (whole_words bs)) (e ∙ read_is))
    where
      by_tests : (u t : Bool) → refused m p ≡ answer u t → m ≤ 16
      by_tests true true h =
          let k : m ≡ number (check_all (types (whole_words bs)) (given (count (whole_words bs)))) = ap number h in
          omega (arith, k, few-numbers-all (count (whole_words bs)) (types (whole_words bs)))
      by_tests true false h = let k : m ≡ 16 = ap number h in omega (arith, k)
      by_tests false t h = let k : m ≡ 16 = ap number h in omega (arith, k)

  -- bytes that are read
  pub record Read (n : ℕ) : Type 0 where
    pub short : length bs ≤ 12552
    pub few : n ≤ 32
    pub types-in : n ≡ length (types (whole_words bs))

  pub was_read : (n : ℕ) → given n ≡ read_sheet bs → Read n
  was_read n e = by_tests (eqb (length bs % 8) 0) (is_sheet (whole_words bs)) refl refl (e ∙ read_is)
    where
      by_tests : (u t : Bool) → eqb (length bs % 8) 0 ≡ u → is_sheet (whole_words bs) ≡ t → given n ≡ answer u t → Read n
      by_tests true true f g h =
          let k : n ≡ count (whole_words bs) = passed (count (whole_words bs)) n (types (whole_words bs)) (sym h) in
          let m : unwrap_or (types_in (whole_words bs)) 0 ≡ count (whole_words bs) = rw g in
          record {
            short = omega (arith, sheet-short (whole_words bs) g, length-words (length bs / 8) bs, eqb-true (length bs % 8) 0 f);
            few = omega (arith, k, (sheet-known (whole_words bs) g).few);
            types-in = k ∙ sym (how-many (whole_words bs) ∙ m);
          }
      by_tests true false f g h = absurd (not-given 16 0 n (sym h))
      by_tests false t f g h = absurd (not-given 16 0 n (sym h))
