-- What is printed of the bytes that were read.
-- Assumes nothing.
use mathlib.Core.Path.{◌≡◌, refl, sym, ◌∙◌}
use mathlib.Core.List.{List, ◌++◌}
use Prim.Native.Nat.{ℕ, ◌/◌, ◌≤◌, ◌<◌}
use native.Mathlib.Nat.{zero-add}
use native.Mathlib.Omega.{arith}
use lib.ListN.{length, length-append, take, replicate}
use lib.Seq.{length-take-le}
use Rattle.write_words.specs.Written.{written}
use Rattle.write_words.proofs.Writing.{fits, length-written}
use Rattle.type_layers.specs.Answer.{Answer, given, nothing, refused}
use Rattle.sheet_words.specs.Little.{whole_words}
use Rattle.sheet_contents.specs.Contents.{types}
use Rattle.sheet_read.specs.Sheet.{read_sheet}
use Rattle.sheet_read.proofs.Read.{Read, was_read, small-number}
use Rattle.sheet_words.proofs.Decoding.{words_back}
use Rattle.sheet_text.specs.AsCoded.{put_at, Puts}
use Rattle.sheet_text.specs.declared.text.Text.{Text}
use Rattle.sheet_pairs.specs.Text.{header, rows, refusal, printed, text}
use Rattle.sheet_text.proofs.Putting.{digits-few}
use Rattle.sheet_pairs.proofs.Texts.{rows-fit}

-- what is printed fits
pub text-fits : (bs : List ℕ) → length (text bs) ≤ 18494
unfolding text
text-fits bs = by-answer (read_sheet bs) refl
  where
    by-answer : (r : Answer ℕ) → read_sheet bs ≡ r → length (printed (types (whole_words bs)) r) ≤ 18494
    by-answer (given n) e =
        let k = was_read bs n (sym e) in
        let few : length (types (whole_words bs)) ≤ 32 = omega (arith, k.few, k.types-in) in
        simp length-append (omega (arith, rows-fit (types (whole_words bs)) few))
    by-answer nothing e = omega arith
    by-answer (refused n p) e = simp length-append (omega (arith, digits-few n))

-- from the first byte on, a length within the text counts its first bytes
pub told : (bs : List ℕ) (a b : Text) → a.at ≡ 0 → length a.out.now ≡ 18494 → Puts (text bs) a b →
    ((b.at ≡ length (text bs)) × (b.at ≤ length b.out.now) × (b.at ≡ length (take b.at b.out.now))) × (b.out.now ≡ written (text bs) a.out.now)
unfolding put_at
told bs a b z h p =
    let short = text-fits bs in
    let n : b.at ≡ length (text bs) = p.next ∙ rw (z, zero-add) in
    let w : b.out.now ≡ written (text bs) a.out.now = p.text ∙ rw (z, zero-add, fits (text bs) a.out.now (omega arith)) in
    let l : length b.out.now ≡ length a.out.now = rw w (length-written (text bs) a.out.now) in
    let within : b.at ≤ length b.out.now = omega arith in
    ((n, within, sym (length-take-le b.at b.out.now within)), w)

module _ (bs : List ℕ) where
  -- a refusal is printed with its digits
  pub number_fits : (m p : ℕ) → refused m p ≡ read_sheet bs → m < 100
  number_fits m p e = small-number bs m p e

  pub refused-text : (m p : ℕ) → refused m p ≡ read_sheet bs → (a b : Text) → Puts (refusal m) a b → Puts (text bs) a b
  unfolding text
  refused-text m p e a b q = rw (← e) q

  module _ (n : ℕ) (e : given n ≡ read_sheet bs) (z : List ℕ) (g : z ≡ written (whole_words bs) (replicate 1569 0)) where
    known : Read bs n
    known = was_read bs n e

    pub few_words : length bs / 8 ≤ length z
    few_words =
        let s : length z ≡ 1569 = rw g (length-written (whole_words bs) (replicate 1569 0)) in
        omega (arith, known.short)

    pub so-many-words : length bs / 8 ≡ length (take (length bs / 8) z)
    so-many-words = sym (length-take-le (length bs / 8) z few_words)

    pub table_fits : (n ≤ 32) × (n ≡ length (types (take (length bs / 8) z)))
    table_fits = (known.few, rw (words_back bs z known.short g) known.types-in)

    pub read-text : (a b : Text) → Puts (header ++ rows (types (take (length bs / 8) z))) a b → Puts (text bs) a b
    unfolding text
    read-text a b q = rw (← e) (rw (words_back bs z known.short g) at q)
