-- The line of two types, put together from its parts.
-- Assumes nothing.
use mathlib.Core.Path.{◌≡◌, refl}
use mathlib.Core.List.{List, [], ◌∷◌, ◌++◌}
use Prim.Native.Nat.{ℕ, ◌+◌, ◌*◌, ◌≤◌, ◌<◌}
use native.Mathlib.Omega.{arith}
use lib.ListN.{length, take, length-append}
use Rattle.sheet_contents.specs.Contents.{types, type_at}
use Rattle.sheet_text.specs.AsCoded.{PutsIfRoom, Puts}
use Rattle.sheet_text.specs.declared.text.Text.{Text}
use Rattle.sheet_text.specs.Decimal.{decimal}
use Rattle.sheet_pairs.specs.Text.{answers, line, each, row, rows, header, refused_text, refusal}
use Rattle.sheet_text.proofs.Putting.{puts, room-behind, and-then, digits-few}
use Rattle.sheet_pairs.proofs.Rows.{length-each, going-begin, going_end, going-room, going_on}

-- thirteen bytes behind the positions
pub length-answers : (a b : List ℕ) → length (answers a b) ≡ 13
unfolding answers
length-answers a b = refl

pub length-line : (i j : ℕ) (a b : List ℕ) → length (line i j a b) ≤ 18
unfolding line
length-line i j a b = simp (length-append, length-answers a b) (omega (arith, digits-few i, digits-few j))

-- the line of two types, put part by part
module _ (i j : ℕ) (x y t : List ℕ) (a b c d e : Text) (h : a.at + 18 ≤ length a.out.now) where
  pub line-put : PutsIfRoom (decimal i) a b → PutsIfRoom (32 ∷ []) b c → PutsIfRoom (decimal j) c d → t ≡ answers x y → PutsIfRoom t d e →
      Puts (line i j x y) a e
  unfolding line
  line-put p q r s u =
      let one = puts (decimal i) a b p (omega (arith, digits-few i)) in
      let space = puts (32 ∷ []) b c q (room-behind (decimal i) a b one 1 (omega (arith, digits-few i))) in
      let two = and-then (decimal i) (32 ∷ []) a b c one space (omega (arith, digits-few i)) in
      let k = room-behind (decimal i ++ 32 ∷ []) a c two 2 (simp length-append (omega (arith, digits-few i))) in
      let number = puts (decimal j) c d r (omega (arith, k, digits-few j)) in
      let three =
      and-then (decimal i ++ 32 ∷ []) (decimal j) a c d two number (simp length-append (omega (arith, digits-few i, digits-few j))) in
      let l =
      room-behind (decimal i ++ 32 ∷ [] ++ decimal j) a d three 13 (simp length-append (omega (arith, digits-few i, digits-few j))) in
      let rest = puts t d e u (rw (s, length-answers x y) l) in
      and-then (decimal i ++ 32 ∷ [] ++ decimal j) (answers x y) a d e three (rw s at rest)
      (simp (length-append, length-answers x y) (omega (arith, digits-few i, digits-few j)))

-- the lines of the left type at i
abbrev pub line_of : List ℕ → ℕ → ℕ → List ℕ → List ℕ
line_of words i j b = line (i + 1) j (type_at i words) b

module _ (words : List ℕ) (n i : ℕ) (a : Text) (pre : (a.at + 576 ≤ length a.out.now) × (n ≤ 32) × (i < 32) × (n ≡ length (types words))) where
  fits : a.at + 18 * length (types words) ≤ length a.out.now
  fits = omega (arith, pre.0, pre.1, pre.3)

  lines-short : (j : ℕ) (b : List ℕ) → length (line_of words i j b) ≤ 18
  lines-short j b = length-line (i + 1) j (type_at i words) b

  -- the lines before the one at j were put
  abbrev pub Rowed : ℕ → Text → Type 0
  Rowed j b = Puts (each (line_of words i) 1 (take j (types words))) a b

  pub row-begin : Rowed 0 a
  row-begin = going-begin (line_of words i) 18 lines-short (types words) a fits

  module _ (j : ℕ) (b : Text) (p : Rowed j b) where
    pub row-end : n ≤ j → Puts (row (types words) (i + 1) (type_at i words)) a b
    row-end h = going_end (line_of words i) 18 lines-short (types words) a fits j b p (omega (arith, pre.3))

    module _ (h : j < n) where
      more : j < length (types words)
      more = omega (arith, pre.3)

      pub row_room : (b.at + 18 ≤ length b.out.now) × (i + 1 < 100) × (j + 1 < 100)
      row_room =
          (going-room (line_of words i) 18 lines-short (types words) a fits j b p more, omega (arith, pre.2), omega (arith, pre.1))

      pub row_on : (x y : List ℕ) → x ≡ type_at i words → y ≡ type_at j words → (c : Text) → Puts (line (i + 1) (j + 1) x y) b c → Rowed (j + 1) c
      row_on x y e f c q = going_on (line_of words i) 18 lines-short (types words) a fits j b p more c (rw (e, f) at q)

-- the lines of all left types
rows_short : (ts : List (List ℕ)) → length ts ≤ 32 → (i : ℕ) (a : List ℕ) → length (row ts i a) ≤ 576
rows_short ts h i a = omega (arith, length-each (λ j b. line i j a b) 18 (λ j b. length-line i j a b) 1 ts)

module _ (words : List ℕ) (n : ℕ) (a : Text) (pre : (a.at + n * 576 ≤ length a.out.now) × (n ≤ 32) × (n ≡ length (types words))) where
  rows_fit : a.at + 576 * length (types words) ≤ length a.out.now
  rows_fit = omega (arith, pre.0, pre.2)

  few : length (types words) ≤ 32
  few = omega (arith, pre.1, pre.2)

  abbrev pub Tabled : ℕ → Text → Type 0
  Tabled i b = Puts (each (row (types words)) 1 (take i (types words))) a b

  pub table-begin : Tabled 0 a
  table-begin = going-begin (row (types words)) 576 (rows_short (types words) few) (types words) a rows_fit

  module _ (i : ℕ) (b : Text) (p : Tabled i b) where
    pub table-end : n ≤ i → Puts (rows (types words)) a b
    table-end h = going_end (row (types words)) 576 (rows_short (types words) few) (types words) a rows_fit i b p (omega (arith, pre.2))

    module _ (h : i < n) where
      next : i < length (types words)
      next = omega (arith, pre.2)

      pub table-room : (b.at + 576 ≤ length b.out.now) × (n ≤ 32) × (i < 32) × (n ≡ length (types words))
      table-room =
          (going-room (row (types words)) 576 (rows_short (types words) few) (types words) a rows_fit i b p next, pre.1, omega (arith, pre.1), pre.2)

      pub table_on : (c : Text) → Puts (row (types words) (i + 1) (type_at i words)) b c → Tabled (i + 1) c
      table_on c q = going_on (row (types words)) 576 (rows_short (types words) few) (types words) a rows_fit i b p next c q

-- the line of a refusal
pub refusal-put : (n : ℕ) (a b c d : Text) → a.at + 12 ≤ length a.out.now → PutsIfRoom refused_text a b → PutsIfRoom (decimal n) b c →
    PutsIfRoom (10 ∷ []) c d → Puts (refusal n) a d
refusal-put n a b c d h p q r =
    let word = puts refused_text a b p (omega arith) in
    let k = room-behind refused_text a b word 2 (omega arith) in
    let numbered =
    and-then refused_text (decimal n) a b c word (puts (decimal n) b c q (omega (arith, k, digits-few n))) (omega (arith, digits-few n)) in
    let l = room-behind (refused_text ++ decimal n) a c numbered 1 (simp length-append (omega (arith, digits-few n))) in
    and-then (refused_text ++ decimal n) (10 ∷ []) a c d numbered (puts (10 ∷ []) c d r l) (simp length-append (omega (arith, digits-few n)))

pub rows-fit : (ts : List (List ℕ)) → length ts ≤ 32 → length (rows ts) ≤ 18432
rows-fit ts h = omega (arith, length-each (row ts) 576 (rows_short ts h) 1 ts)

-- the header, and the lines behind it
module _ (words : List ℕ) (n : ℕ) (a : Text) (pre : (a.at + 18494 ≤ length a.out.now) × (n ≤ 32) × (n ≡ length (types words))) where
  all_short : length (rows (types words)) ≤ 18432
  all_short = rows-fit (types words) (omega (arith, pre.1, pre.2))

  module _ (b : Text) (p : PutsIfRoom header a b) where
    headed : Puts header a b
    headed = puts header a b p (omega (arith, pre.0))

    pub rows-room : (b.at + n * 576 ≤ length b.out.now) × (n ≤ 32) × (n ≡ length (types words))
    rows-room = (room-behind header a b headed (n * 576) (omega (arith, pre.0, pre.1)), pre.1, pre.2)

    pub table-put : (c : Text) → Puts (rows (types words)) b c → Puts (header ++ rows (types words)) a c
    table-put c q = and-then header (rows (types words)) a b c headed q (omega (arith, pre.0, all_short))
