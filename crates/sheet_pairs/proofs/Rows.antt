-- The texts of all types of a sheet, put one behind the other.
-- Assumes nothing.
use mathlib.Core.Path.{◌≡◌, sym, ◌∙◌}
use mathlib.Core.List.{List, [], ◌∷◌, ◌++◌, append_assoc, append-nil}
use Prim.Native.Nat.{ℕ, zero, suc, ◌+◌, ◌*◌, ◌≤◌, ◌<◌}
use native.Mathlib.Nat.{mul-suc, mul-le-mul_left}
use native.Mathlib.Numerals.{add-one}
use native.Mathlib.Omega.{arith}
use lib.ListN.{length, take, get_or, length-append}
use lib.Seq.{take_all, length-take-le}
use Rattle.sheet_pairs.specs.Text.{each}
use Rattle.sheet_text.specs.AsCoded.{Puts}
use Rattle.sheet_text.specs.declared.text.Text.{Text}
use Rattle.sheet_text.proofs.Putting.{nothing-puts, and-then, room-behind}

module _ (f : ℕ → List ℕ → List ℕ) where
  one_more : (i j : ℕ) (ts : List (List ℕ)) → j < length ts →
      each f i (take (suc j) ts) ≡ each f i (take j ts) ++ f (i + j) (get_or ts j [])
  unfolding each
  one_more i j [] h = absurd (omega arith)
  one_more i zero (t ∷ ts) h = let e : i + 0 ≡ i = omega arith in rw (e, append-nil)
  one_more i (suc j) (t ∷ ts) h =
      let e : i + 1 + j ≡ i + suc j = omega arith in
      rw (one_more (i + 1) j ts (omega arith), e) (sym (append_assoc (f i t) (each f (i + 1) (take j ts)) (f (i + suc j) (get_or ts j []))))

  module _ (m : ℕ) (short : (i : ℕ) (a : List ℕ) → length (f i a) ≤ m) where
    pub length-each : (i : ℕ) (ts : List (List ℕ)) → length (each f i ts) ≤ m * length ts
    unfolding each
    length-each i [] = omega arith
    length-each i (t ∷ ts) = simp (length-append, mul-suc) (omega (arith, short i t, length-each (i + 1) ts))

    -- of the types before the one at j the texts were put
    module _ (ts : List (List ℕ)) (a : Text) (h : a.at + m * length ts ≤ length a.out.now) where
      pub going-begin : Puts (each f 1 (take 0 ts)) a a
      unfolding each
      going-begin = nothing-puts a

      module _ (j : ℕ) (b : Text) (p : Puts (each f 1 (take j ts)) a b) where
        pub going_end : length ts ≤ j → Puts (each f 1 ts) a b
        going_end i = rw (take_all j ts i) at p

        module _ (i : j < length ts) where
          so_far : length (each f 1 (take j ts)) ≤ m * j
          so_far = rw (length-take-le j ts (omega arith)) at (length-each 1 (take j ts))

          one-fits : m * j + m ≤ m * length ts
          one-fits = rw mul-suc at (mul-le-mul_left {m = suc j} {n = length ts} m i)

          pub going-room : b.at + m ≤ length b.out.now
          going-room = room-behind (each f 1 (take j ts)) a b p m (omega (arith, so_far, one-fits))

          pub going_on : (c : Text) → Puts (f (j + 1) (get_or ts j [])) b c → Puts (each f 1 (take (j + 1) ts)) a c
          going_on c q =
              let e : 1 + j ≡ j + 1 = omega arith in
              let s : each f 1 (take (j + 1) ts) ≡ each f 1 (take j ts) ++ f (j + 1) (get_or ts j []) =
              rw (add-one j) (one_more 1 j ts i ∙ rw (e, add-one)) in
              rw s
              (and-then (each f 1 (take j ts)) (f (j + 1) (get_or ts j [])) a b c p q
              (omega (arith, so_far, one-fits, short (j + 1) (get_or ts j []))))
