-- The types of a sheet, checked one after the other.
-- Assumes nothing.
use mathlib.Core.Path.{◌≡◌, refl, sym, ◌∙◌}
use mathlib.Core.Bool.{Bool, true, false, cond}
use mathlib.Core.List.{List, [], ◌∷◌}
use Prim.Native.Nat.{ℕ, suc, ◌+◌, ◌/◌, ◌%◌, ◌≤◌, ◌<◌}
use native.Mathlib.Omega.{arith}
use native.Mathlib.Numerals.{add-one}
use lib.Dec.{eqb}
use lib.ListN.{length, take, drop, replicate, drop_of_length-le}
use lib.Seq.{drop-cons}
use borrow.Author.Tests.{eqb-true, ne_eqb, eq-eqb}
use Rattle.type_layers.specs.Answer.{Answer, given, refused, next}
use Rattle.type_checks.specs.Check.{check_of}
use Rattle.std.specs.Prelude.{Option, Some, None, Ok, Err}
use Rattle.std.specs.Option.{ok_or}
use Rattle.type_numbers.specs.declared.refusal.Refusal.{Refusal}
use Rattle.sheet_words.specs.Little.{whole_words}
use Rattle.sheet_contents.specs.Contents.{is_sheet, count, types_in, types, type_at}
use Rattle.sheet_read.specs.Sheet.{check_all, bad_sheet, read_words, read_sheet}
use Rattle.write_words.specs.Written.{written}
use Rattle.sheet_words.proofs.Decoding.{length-words, words_back}
use Rattle.sheet_contents.proofs.Places.{how-many, a-sheet, number, sheet-short}

-- the number of types where there is one, and its refusal where there is none
pub some-count : (o : Option ℕ) (r : Refusal) (n : ℕ) → Ok n ≡ ok_or o r → (t : Option ℕ) → o ≡ t → Some n ≡ t
some-count (Some m) r n e t f = cc
some-count None r n e t f = cc

pub no-count : (o : Option ℕ) (r q : Refusal) → Err q ≡ ok_or o r → (t : Option ℕ) → o ≡ t → (None ≡ t) × (q ≡ r)
no-count (Some m) r q e t f = cc
no-count None r q e t f = (cc, cc)

-- words that are no sheet
pub no-sheet : (ws : List ℕ) → None ≡ types_in ws → bad_sheet ≡ read_words ws
unfolding read_words
no-sheet ws e = by-test (is_sheet ws) e
  where
    by-test : (t : Bool) → None ≡ cond t (Some (count ws)) None → bad_sheet ≡ cond t (check_all (types ws) (given (count ws))) bad_sheet
    by-test false g = refl
    by-test true g = cc

module _ (ws : List ℕ) (n : ℕ) (e : Some n ≡ types_in ws) where
  pub check-begin : check_all (drop 0 (types ws)) (given n) ≡ read_words ws
  unfolding read_words
  check-begin = rw (a-sheet ws n e, number ws n e)

  module _ (k : ℕ) (p : check_all (drop k (types ws)) (given n) ≡ read_words ws) where
    module _ (h : k < n) (a : List ℕ) (f : a ≡ type_at k ws) where
      one : next (check_of a) (check_all (drop (suc k) (types ws)) (given n)) ≡ read_words ws
      unfolding check_all
      one =
          let l : k < length (types ws) = rw (how-many ws, sym e) h in
          let d : drop k (types ws) ≡ a ∷ drop (suc k) (types ws) = drop-cons (types ws) k [] l ∙ rw f in
          rw d at p

      pub refused-here : (m q : ℕ) → refused m q ≡ check_of a → refused m q ≡ read_words ws
      refused-here m q i = rw (sym i) at one

      pub check-more : (m : ℕ) → given m ≡ check_of a → check_all (drop (k + 1) (types ws)) (given n) ≡ read_words ws
      check-more m i = rw add-one (rw (sym i) at one)

    pub check-end : n ≤ k → given n ≡ read_words ws
    unfolding check_all
    check-end h = rw (drop_of_length-le (types ws) {i = k} (rw (how-many ws, sym e) h)) at p

module _ (bs : List ℕ) where
  pub too_long : 12552 < length bs → bad_sheet ≡ read_sheet bs
  unfolding read_sheet read_words
  too_long h = by-test (is_sheet (whole_words bs)) refl (eqb (length bs % 8) 0) refl
    where
      by-test : (t : Bool) → is_sheet (whole_words bs) ≡ t → (u : Bool) → eqb (length bs % 8) 0 ≡ u →
          bad_sheet ≡ cond u (cond t (check_all (types (whole_words bs)) (given (count (whole_words bs)))) bad_sheet) bad_sheet
      by-test t g false k = refl
      by-test false g true k = refl
      by-test true g true k =
          absurd (omega (arith, sheet-short (whole_words bs) g, length-words (length bs / 8) bs, eqb-true (length bs % 8) 0 k))

  pub odd-bytes : (length bs % 8 ≡ 0 → ⊥) → bad_sheet ≡ read_sheet bs
  unfolding read_sheet
  odd-bytes h = rw (ne_eqb (length bs % 8) 0 h)

  pub as_read : length bs ≤ 12552 → length bs % 8 ≡ 0 → (z : List ℕ) → z ≡ written (whole_words bs) (replicate 1569 0) →
      (r : Answer ℕ) → r ≡ read_words (take (length bs / 8) z) → r ≡ read_sheet bs
  unfolding read_sheet
  as_read h k z e r f = f ∙ rw (words_back bs z h e, eq-eqb (length bs % 8) 0 k)
