-- Bytes put into a text, one run behind the other.
-- Assumes nothing.
use mathlib.Core.Path.{◌≡◌, refl, sym, ◌∙◌}
use mathlib.Core.Bool.{Bool, true, false, cond}
use mathlib.Core.List.{List, [], ◌∷◌, ◌++◌, append_assoc, append-nil}
use Prim.Native.Nat.{ℕ, ◌+◌, ◌/◌, ◌%◌, ◌≤◌}
use native.Mathlib.Nat.{add-zero}
use native.Mathlib.Omega.{arith}
use lib.Dec.{ltb}
use lib.ListN.{length, take, drop, length-append, length-drop, take-append-drop}
use lib.Seq.{take_at, drop_at, drop-drop, length-take-le}
use borrow.Author.Tests.{le-leb}
use Rattle.sheet_text.specs.AsCoded.{put_at, fits, put_in, behind, PutsIfRoom, Puts}
use Rattle.sheet_text.specs.declared.text.Text.{Text}
use Rattle.sheet_text.specs.Decimal.{decimal}

-- a run t was put at a place of l: the place behind it, and the text now
abbrev pub Put : ℕ → List ℕ → List ℕ → ℕ → List ℕ → Type 0
Put at t l to m = (to ≡ at + length t) × (m ≡ put_at at t l)

pub nothing_put : (at : ℕ) (l : List ℕ) → Put at [] l at l
unfolding put_at
nothing_put at l = (sym (add-zero at), sym (rw (add-zero, append-nil) (take-append-drop at l)))

module _ (at : ℕ) (t l : List ℕ) (h : at + length t ≤ length l) where
  pub length-put : length (put_at at t l) ≡ length l
  unfolding put_at
  length-put = simp (length-append, length-drop, length-take-le at l (omega arith)) (omega arith)

  front : take (at + length t) (put_at at t l) ≡ take at l ++ t
  unfolding put_at
  front =
      let n : length (take at l ++ t) ≡ at + length t = simp (length-append, length-take-le at l (omega arith)) refl in
      (take_at (take at l ++ t) (drop (at + length t) l) (at + length t) n)

  rest : drop (at + length t) (put_at at t l) ≡ drop (at + length t) l
  unfolding put_at
  rest =
      let n : length (take at l ++ t) ≡ at + length t = simp (length-append, length-take-le at l (omega arith)) refl in
      (drop_at (take at l ++ t) (drop (at + length t) l) (at + length t) n)

-- one run behind another
pub then : (at mid to : ℕ) (s t l m k : List ℕ) → Put at s l mid m → Put mid t m to k → at + length s + length t ≤ length l →
    Put at (s ++ t) l to k
unfolding put_at
then at mid to s t l m k p q h =
    let size : to ≡ at + length (s ++ t) = simp length-append (omega (arith, p.0, q.0)) in
    (size, q.1 ∙ rw (p.0, p.1) joined)
  where
    joined : put_at (at + length s) t (put_at at s l) ≡ put_at at (s ++ t) l
    joined =
        let n : at + length s + length t ≡ at + length (s ++ t) = simp length-append (omega arith) in
        let tail : drop (at + length s + length t) (put_at at s l) ≡ drop (at + length (s ++ t)) l =
        rw (← drop-drop (length t) (at + length s) (put_at at s l), rest at s l (omega arith), drop-drop, n) refl in
        rw (front at s l (omega arith), tail, append_assoc (take at l) s t) refl

-- a put that fits, and one that does not
abbrev pub Did : ℕ → List ℕ → List ℕ → ℕ → List ℕ → Type 0
Did at t l to m = (to ≡ behind at t l) × (m ≡ put_in at t l)

module _ (at : ℕ) (t l : List ℕ) where
  pub fitted : at + length t ≤ length l → (to : ℕ) (m : List ℕ) → Did at t l to m → Put at t l to m
  unfolding behind put_in
  fitted h to m d =
      let f : fits at t l ≡ true = le-leb (at + length t) (length l) h in
      (rw f at d.0, rw f at d.1)

-- no bytes are put anywhere
pub nothing_behind : (at : ℕ) (l : List ℕ) → behind at [] l ≡ at
unfolding behind
nothing_behind at l = by-room (fits at [] l)
  where
    by-room : (f : Bool) → cond f (at + 0) at ≡ at
    by-room true = add-zero at
    by-room false = refl

pub nothing_in : (at : ℕ) (l : List ℕ) → put_in at [] l ≡ l
unfolding put_in
nothing_in at l = by-room (fits at [] l)
  where
    by-room : (f : Bool) → cond f (put_at at [] l) l ≡ l
    by-room true = sym (nothing_put at l).1
    by-room false = refl

pub digits-few : (n : ℕ) → length (decimal n) ≤ 2
unfolding decimal
digits-few n = by-test (ltb n 10) (ltb n 100)
  where
    by-test : (t u : Bool) → length (cond t ((48 + n) ∷ []) (cond u ((48 + n / 10) ∷ (48 + n % 10) ∷ []) [])) ≤ 2
    by-test true u = omega arith
    by-test false true = omega arith
    by-test false false = omega arith

-- room behind what was put
pub room : (at mid : ℕ) (s l m : List ℕ) → Put at s l mid m → (k : ℕ) → at + length s + k ≤ length l → mid + k ≤ length m
room at mid s l m p k h =
    let n : length m ≡ length l = rw p.1 (length-put at s l (omega arith)) in
    omega (arith, p.0)

-- of texts
module _ (t : List ℕ) (a b : Text) where
  pub puts : PutsIfRoom t a b → a.at + length t ≤ length a.out.now → Puts t a b
  puts d h =
      let p = fitted a.at t a.out.now h b.at b.out.now (d.next, d.text) in
      record { same = d.same; next = p.0; text = p.1 }

  pub length-puts : Puts t a b → a.at + length t ≤ length a.out.now → length b.out.now ≡ length a.out.now
  length-puts p h = rw p.text (length-put a.at t a.out.now h)

  pub room-behind : Puts t a b → (k : ℕ) → a.at + length t + k ≤ length a.out.now → b.at + k ≤ length b.out.now
  room-behind p k h = room a.at b.at t a.out.now b.out.now (p.next, p.text) k h

pub nothing-puts : (a : Text) → Puts [] a a
nothing-puts a = let p = nothing_put a.at a.out.now in record { same = refl; next = p.0; text = p.1 }

pub and-then : (s t : List ℕ) (a b c : Text) → Puts s a b → Puts t b c → a.at + length s + length t ≤ length a.out.now → Puts (s ++ t) a c
and-then s t a b c p q h =
    let r = then a.at b.at c.at s t a.out.now b.out.now c.out.now (p.next, p.text) (q.next, q.text) h in
    record { same = q.same ∙ p.same; next = r.0; text = r.1 }
