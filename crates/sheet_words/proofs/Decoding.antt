-- Bytes read as words.
-- Assumes nothing.
use mathlib.Core.Path.{◌≡◌, refl, ◌∙◌}
use mathlib.Core.List.{List, [], ◌∷◌, ◌++◌, append_assoc}
use Prim.Native.Nat.{ℕ, zero, suc, ◌+◌, ◌*◌, ◌/◌, ◌≤◌, ◌<◌}
use native.Mathlib.Omega.{arith}
use native.Mathlib.Numerals.{add-one}
use lib.ListN.{length, take, drop, get_or, set, replicate, length-drop}
use lib.Seq.{drop-cons, drop-drop, take_at, set_at, length-take-le}
use borrow.Author.Tests.{lt-ltb}
use Rattle.std.specs.Int.{w64, from_le_bytes}
use Rattle.std.specs.Simd.{first_chunks}
use Rattle.write_words.specs.Written.{written}
use Rattle.write_words.proofs.Writing.{fits}
use Rattle.sheet_words.specs.Little.{little, words_of, whole_words}

-- the word of eight bytes
little-eight : (b : List ℕ) → length b ≡ 8 → from_le_bytes w64 b ≡ little b
unfolding little
little-eight [] e = absurd (omega (arith, e))
little-eight (_ ∷ []) e = absurd (omega (arith, e))
little-eight (_ ∷ _ ∷ []) e = absurd (omega (arith, e))
little-eight (_ ∷ _ ∷ _ ∷ []) e = absurd (omega (arith, e))
little-eight (_ ∷ _ ∷ _ ∷ _ ∷ []) e = absurd (omega (arith, e))
little-eight (_ ∷ _ ∷ _ ∷ _ ∷ _ ∷ []) e = absurd (omega (arith, e))
little-eight (_ ∷ _ ∷ _ ∷ _ ∷ _ ∷ _ ∷ []) e = absurd (omega (arith, e))
little-eight (_ ∷ _ ∷ _ ∷ _ ∷ _ ∷ _ ∷ _ ∷ []) e = absurd (omega (arith, e))
little-eight (a ∷ b ∷ c ∷ d ∷ e ∷ f ∷ g ∷ h ∷ []) p = omega arith
little-eight (_ ∷ _ ∷ _ ∷ _ ∷ _ ∷ _ ∷ _ ∷ _ ∷ _ ∷ bs) e = absurd (omega (arith, e))

pub length-words : (n : ℕ) (bs : List ℕ) → length (words_of n bs) ≡ n
unfolding words_of
length-words zero bs = refl
length-words (suc n) bs = rw (length-words n (drop 8 bs))

-- chunk i of so many
chunk_at : (n i : ℕ) (bs : List ℕ) → i < n → (d : List ℕ) → get_or (first_chunks 8 n bs) i d ≡ take 8 (drop (i * 8) bs)
chunk_at zero i bs h d = absurd (omega arith)
chunk_at (suc n) zero bs h d = refl
chunk_at (suc n) (suc i) bs h d =
    let e : 8 + i * 8 ≡ suc i * 8 = omega arith in
    chunk_at n i (drop 8 bs) (omega arith) d ∙ rw (drop-drop, e)

-- one word more
words-more : (i : ℕ) (bs : List ℕ) → words_of (suc i) bs ≡ words_of i bs ++ little (take 8 (drop (i * 8) bs)) ∷ []
unfolding words_of
words-more zero bs = refl
words-more (suc i) bs =
    let e : 8 + i * 8 ≡ suc i * 8 = omega arith in
    rw (words-more i (drop 8 bs), drop-drop, e)

-- the words of bytes, written over zeros
abbrev zeros : List ℕ
zeros = replicate 1569 0

-- before the word at i
abbrev pub so_far : List ℕ → ℕ → List ℕ → Type 0
so_far bs i l = l ≡ words_of i bs ++ drop i zeros

pub begun : (bs : List ℕ) → so_far bs 0 zeros
unfolding words_of
begun bs = refl

pub word_more : (bs l : List ℕ) (i n : ℕ) → so_far bs i l → i < n → n ≡ length bs / 8 → n ≤ 1569 → (cs : List (List ℕ)) → cs ≡ first_chunks 8 (length bs / 8) bs →
    (d : List ℕ) (r : ℕ) → r ≡ from_le_bytes w64 (get_or cs i d) → so_far bs (i + 1) (set l i r)
word_more bs l i n p h e m cs q d r f =
    let k : i < length bs / 8 = omega arith in
    let chunk : length (take 8 (drop (i * 8) bs)) ≡ 8 = length-take-le 8 (drop (i * 8) bs) (simp length-drop (omega arith)) in
    let here : r ≡ little (take 8 (drop (i * 8) bs)) = f ∙ rw (q, chunk_at (length bs / 8) i bs k d) (little-eight (take 8 (drop (i * 8) bs)) chunk) in
    rw (add-one, words-more i bs, p, drop-cons zeros i 0 (omega arith), set_at (words_of i bs) (get_or zeros i 0) (drop (suc i) zeros) r i (length-words i bs), here, append_assoc)

pub decoded : (bs l : List ℕ) (i n : ℕ) → so_far bs i l → i ≤ n → n ≤ i → n ≡ length bs / 8 → n ≤ 1569 → l ≡ written (whole_words bs) zeros
decoded bs l i n p h k e m =
    let j : i ≡ length bs / 8 = omega arith in
    let room : length (whole_words bs) ≤ length zeros = rw (length-words (length bs / 8) bs) (omega arith) in
    p ∙ rw (j, fits (whole_words bs) zeros room, length-words (length bs / 8) bs)

pub too_many : (bs : List ℕ) → 1569 < length bs / 8 → zeros ≡ written (whole_words bs) zeros
unfolding written
too_many bs h = let k : 1569 < length (whole_words bs) = rw (length-words (length bs / 8) bs) h in rw (lt-ltb 1569 (length (whole_words bs)) k)

-- the words of bytes that are not too many
pub words_back : (bs z : List ℕ) → length bs ≤ 12552 → z ≡ written (whole_words bs) (replicate 1569 0) → take (length bs / 8) z ≡ whole_words bs
words_back bs z h e =
    let n : length (whole_words bs) ≡ length bs / 8 = length-words (length bs / 8) bs in
    let w : z ≡ whole_words bs ++ drop (length (whole_words bs)) (replicate 1569 0) =
    e ∙ fits (whole_words bs) (replicate 1569 0) (rw n (omega arith)) in
    rw w (take_at (whole_words bs) (drop (length (whole_words bs)) (replicate 1569 0)) (length bs / 8) n)
