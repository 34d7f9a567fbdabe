-- Words written over the front of a run.
-- Assumes nothing.
use mathlib.Core.Path.{◌≡◌, refl, sym, ◌∙◌}
use mathlib.Core.Bool.{Bool, true, false, cond}
use mathlib.Core.List.{List, ◌++◌, append_assoc, append-nil}
use Prim.Native.Nat.{ℕ, suc, ◌+◌, ◌-◌, ◌≤◌, ◌<◌}
use native.Mathlib.Numerals.{add-one}
use native.Mathlib.Omega.{arith}
use lib.Dec.{ltb}
use lib.ListN.{length, take, drop, set, get_or, length-append, length-drop, length-set, take-append-drop, drop_of_length-le}
use lib.Seq.{take_all, take_at, drop_at, drop-drop, take-length, take-suc, drop-cons, set_at, length-take-le}
use borrow.Author.Tests.{le-ltb, lt-ltb, ltb-false}
use Rattle.write_words.specs.Written.{written}

module _ (ws b : List ℕ) where
  pub fits : length ws ≤ length b → written ws b ≡ ws ++ drop (length ws) b
  unfolding written
  fits h = rw (le-ltb (length b) (length ws) h)

  pub too_short : length b < length ws → b ≡ written ws b
  unfolding written
  too_short h = rw (lt-ltb (length b) (length ws) h)

-- the first words are written over the front
abbrev first : List ℕ → List ℕ → ℕ → List ℕ
first ws b i = take i ws ++ drop i b

-- what the loop knows before the word at i
pub record Begun (ws b l : List ℕ) (i : ℕ) : Type 0 where
  pub within : i ≤ length ws
  pub room : length ws ≤ length b
  pub same : length l ≡ length b
  pub is : l ≡ first ws b i

module _ (ws b : List ℕ) where
  pub begin : length ws ≤ length b → Begun ws b b 0
  begin h = record { within = omega arith; room = h; same = refl; is = refl }

  pub go_on : (l : List ℕ) (i : ℕ) → Begun ws b l i → i < length ws → Begun ws b (set l i (get_or ws i 0)) (i + 1)
  go_on l i p h =
      let n : length (take i ws) ≡ i = length-take-le i ws (omega arith) in
      let k : i < length b = omega (arith, p.room) in
      record {
        within = omega arith;
        room = p.room;
        same = simp length-set p.same;
        is =
            rw (p.is, add-one, drop-cons b i 0, set_at (take i ws) (get_or b i 0) (drop (suc i) b) (get_or ws i 0) i n, take-suc ws i 0, append_assoc);
      }

  pub all : (l : List ℕ) (i : ℕ) → Begun ws b l i → length ws ≤ i → l ≡ written ws b
  all l i p h =
      let n : i ≡ length ws = omega (arith, p.within) in
      (rw (n, take-length ws) at p.is) ∙ sym (fits ws b p.room)

pub ruleset written_so = (too_short, begin, go_on, all)

-- a run's length stays
pub length-written : (ws b : List ℕ) → length (written ws b) ≡ length b
unfolding written
length-written ws b = by-room (ltb (length b) (length ws)) refl
  where
    by-room : (s : Bool) → ltb (length b) (length ws) ≡ s → length (cond s b (ws ++ drop (length ws) b)) ≡ length b
    by-room true e = refl
    by-room false e = simp (length-append, length-drop) (omega (arith, ltb-false (length b) (length ws) e))

-- a part of a run from a word to the end, and the run with other words there
abbrev pub part : ℕ → List ℕ → List ℕ
part n b = take (length b - n) (drop n b)

abbrev pub put : ℕ → List ℕ → List ℕ → List ℕ
put n b c = take n b ++ (c ++ drop (length b - n) (drop n b))

module _ (n : ℕ) (b : List ℕ) where
  long : length (drop n b) ≤ length b - n
  long = simp length-drop (omega arith)

  pub part-is : part n b ≡ drop n b
  part-is = take_all (length b - n) (drop n b) long

  put_is : (c : List ℕ) → put n b c ≡ take n b ++ c
  put_is c = rw (drop_of_length-le (drop n b) long, append-nil)

  pub put_back : put n b (part n b) ≡ b
  put_back = put_is (part n b) ∙ rw part-is (take-append-drop n b)

-- words written to the front and to the part after it, in either order
module _ (a c b : List ℕ) (n : ℕ) (e : length a ≡ n) (h : n + length c ≤ length b) where
  whole : written (a ++ c) b ≡ a ++ (c ++ drop (n + length c) b)
  whole =
      let room : length (a ++ c) ≤ length b = simp length-append (omega arith) in
      rw (fits (a ++ c) b room, length-append, e, append_assoc)

  later : (l : List ℕ) → drop n l ≡ drop n b → written c (part n l) ≡ c ++ drop (n + length c) b
  later l d =
      let room : length c ≤ length (drop n b) = simp length-drop (omega arith) in
      rw (part-is n l, d, fits c (drop n b) room, drop-drop)

  pub front-first : put n (written a b) (written c (part n (written a b))) ≡ written (a ++ c) b
  front-first =
      let is : written a b ≡ a ++ drop n b = rw e at (fits a b (omega arith)) in
      let d : drop n (written a b) ≡ drop n b = rw is (drop_at a (drop n b) n e) in
      rw (put_is n (written a b), later (written a b) d, whole, is, take_at a (drop n b) n e)

  pub front-last : written a (put n b (written c (part n b))) ≡ written (a ++ c) b
  front-last =
      let l = take n b ++ (c ++ drop (n + length c) b) in
      let k : length (take n b) ≡ n = length-take-le n b (omega arith) in
      let m : length l ≡ length b = simp (length-append, length-drop, k) (omega arith) in
      let room : length a ≤ length l = omega arith in
      rw (put_is n b, later b refl, whole, fits a l room, e, drop_at (take n b) (c ++ drop (n + length c) b) n k)
