-- Externalizing, layer by layer.
-- Assumes nothing.
use mathlib.Core.Path.{◌≡◌, refl, sym, ap, ◌∙◌}
use mathlib.Core.Bool.{Bool, true, false, cond, ◌||◌, true≢false, false≢true}
use mathlib.Core.List.{List, [], ◌∷◌, ◌++◌}
use Prim.Native.Nat.{ℕ, suc, ◌+◌, ◌%◌, ◌≤◌, ◌<◌}
use native.Mathlib.Omega.{arith}
use lib.Dec.{eqb}
use lib.ListN.{length, get_or, length-take, length-drop}
use borrow.Author.Tests.{eqb-true}
use Rattle.type_numbers.specs.Kind as kind
use Rattle.type_numbers.specs.AsCoded.{words}
use Rattle.type_layers.specs.Layers.{Layer, layer, layers, is_reference, spelled}
use Rattle.type_layers.specs.AsCoded.{head}
use Rattle.type_layers.specs.Answer.{Answer, given, nothing, refused}
use Rattle.type_layers.proofs.Words.{rest, none, more}
use Rattle.write_words.specs.Written.{written}
use Rattle.write_words.proofs.Writing.{part, put, put_back, front-last}
use Rattle.extern_fixing.specs.Fixing.{under, kept, externalized}
use Rattle.write_type.specs.Outcome.{told, over}
use Rattle.extern_fixing.specs.AsCoded.{Room}
use Rattle.type_layers.proofs.Spelling.{spelled-length, spelled-layers}
use Rattle.write_type.proofs.Outcomes.{stays}

-- the kinds that externalizing goes inside of, and what becomes of such a layer
abbrev pub goes : ℕ → Bool
goes k = is_reference k || eqb k kind.arraylike

abbrev pub turned : Layer → Layer
turned x = cond (eqb x.kind kind.arraylike) (layer kind.endless_array 0 0) x

-- none of them is kept
pub goes-apart : (k : ℕ) (g : Bool) → g ≡ goes k → g ≡ true → kept k ≡ false
goes-apart k g e f = by_kind (is_reference k) (eqb k kind.arraylike) refl refl (sym e ∙ f)
  where
    by_kind : (r l : Bool) → is_reference k ≡ r → eqb k kind.arraylike ≡ l → (r || l) ≡ true → kept k ≡ false
    by_kind r true h l x = rw (eqb-true k kind.arraylike l)
    by_kind true false h l x = by_reference (eqb k kind.pointer) (eqb k kind.view) refl refl h
      where
        by_reference : (a b : Bool) → eqb k kind.pointer ≡ a → eqb k kind.view ≡ b → (a || b) ≡ true → kept k ≡ false
        by_reference true b u v y = rw (eqb-true k kind.pointer u)
        by_reference false true u v y = rw (eqb-true k kind.view v)
        by_reference false false u v y = absurd (false≢true y)
    by_kind false false h l x = absurd (false≢true x)

-- the three ways
module _ (p : ℕ) (x : Layer) (a : List Layer) where
  pub keeps : kept x.kind ≡ true → externalized p (x ∷ a) ≡ given (x ∷ a)
  unfolding externalized
  keeps e = rw e

  module _ (e : kept x.kind ≡ false) where
    pub goes-inside : goes x.kind ≡ true → externalized p (x ∷ a) ≡ under (turned x ∷ []) (externalized (p + 1) a)
    unfolding externalized
    goes-inside g = by_kind (is_reference x.kind) (eqb x.kind kind.arraylike) refl refl g
      where
        by_kind : (r l : Bool) → is_reference x.kind ≡ r → eqb x.kind kind.arraylike ≡ l → (r || l) ≡ true →
            externalized p (x ∷ a) ≡ under (cond l (layer kind.endless_array 0 0) x ∷ []) (externalized (p + 1) a)
        by_kind true true f h g = absurd (false≢true (rw (eqb-true x.kind kind.arraylike h) at f))
        by_kind true false f h g = rw (e, f)
        by_kind false true f h g = rw (e, f, h)
        by_kind false false f h g = absurd (false≢true g)

    pub refuses : goes x.kind ≡ false → externalized p (x ∷ a) ≡ refused 6 p
    unfolding externalized
    refuses g = by_kind (is_reference x.kind) (eqb x.kind kind.arraylike) refl refl g
      where
        by_kind : (r l : Bool) → is_reference x.kind ≡ r → eqb x.kind kind.arraylike ≡ l → (r || l) ≡ false → externalized p (x ∷ a) ≡ refused 6 p
        by_kind true l f h g = absurd (true≢false g)
        by_kind false true f h g = absurd (true≢false g)
        by_kind false false f h g = rw (e, f, h)

  -- what holds of each of them holds of a type externalized
  pub ways : (P : Answer (List Layer) → Type 0) → (kept x.kind ≡ true → P (given (x ∷ a))) →
      (goes x.kind ≡ true → P (under (turned x ∷ []) (externalized (p + 1) a))) → P (refused 6 p) → P (externalized p (x ∷ a))
  ways P f g h = by-kept (kept x.kind) refl
    where
      by-goes : kept x.kind ≡ false → (b : Bool) → goes x.kind ≡ b → P (externalized p (x ∷ a))
      by-goes k true e = rw (goes-inside k e) (g e)
      by-goes k false e = rw (refuses k e) h

      by-kept : (b : Bool) → kept x.kind ≡ b → P (externalized p (x ∷ a))
      by-kept true k = rw (keeps k) (f k)
      by-kept false k = by-goes k (goes x.kind) refl

-- no refusal is a type
pub no-type : (n p : ℕ) (b : List Layer) → refused n p ≡ given b → ⊥
no-type n p b e = let z : ◌≡◌ {A = ℕ} 0 1 = cc in omega arith

-- a type under layers was made inside them
pub record Inside (front : List Layer) (o : Answer (List Layer)) (b : List Layer) : Type 0 where
  pub type : List Layer
  pub made : o ≡ given type
  pub is : b ≡ front ++ type

pub from-under : (front : List Layer) (o : Answer (List Layer)) (b : List Layer) → under front o ≡ given b → Inside front o b
unfolding under
from-under front (given a) b e = record { type = a; made = refl; is = cc }
from-under front nothing b e = let z : ◌≡◌ {A = ℕ} 0 1 = cc in absurd (omega arith)
from-under front (refused n q) b e = absurd (no-type n q b e)

-- externalizing keeps the number of layers
pub same_length : (p : ℕ) (a b : List Layer) → externalized p a ≡ given b → length b ≡ length a
unfolding externalized
same_length p [] b e = absurd (no-type 6 p b e)
same_length p (x ∷ a) b e =
    ways p x a (λ (o : Answer (List Layer)). o ≡ given b → length b ≡ length (x ∷ a))
    (λ k q. let w : b ≡ x ∷ a = cc in rw w)
    (λ g q.
    let i = from-under (turned x ∷ []) (externalized (p + 1) a) b q in
    rw i.is (ap suc (same_length (p + 1) a i.type i.made)))
    (λ q. absurd (no-type 6 p b q))
    e

-- what was told, read back
pub told-refused : (o : Answer (List Layer)) (i j : ℕ) → refused i j ≡ told o → o ≡ refused i j
unfolding told
told-refused (given a) i j e = cc
told-refused nothing i j e = cc
told-refused (refused n p) i j e = cc

pub record Made (o : Answer (List Layer)) : Type 0 where
  pub type : List Layer
  pub made : o ≡ given type

pub told-given : (o : Answer (List Layer)) (i : ℕ) → given i ≡ told o → Made o
unfolding told
told-given (given a) i e = record { type = a; made = refl }
told-given nothing i e = let z : ◌≡◌ {A = ℕ} 0 1 = cc in absurd (omega arith)
told-given (refused n p) i e = let z : ◌≡◌ {A = ℕ} 0 1 = cc in absurd (omega arith)

turned-words : (x : Layer) → cond (eqb x.kind kind.arraylike) (words kind.endless_array 0 0) (words x.kind x.name x.number) ≡ spelled (turned x ∷ [])
unfolding spelled
turned-words x = by_kind (eqb x.kind kind.arraylike)
  where
    by_kind : (b : Bool) →
        cond b (words kind.endless_array 0 0) (words x.kind x.name x.number) ≡ spelled (cond b (layer kind.endless_array 0 0) x ∷ [])
    by_kind true = refl
    by_kind false = refl

-- the laws over the words, by what the code tested
module _ (t : List ℕ) (p : ℕ) (m : List ℕ) where
  abbrev outcome : Answer (List Layer)
  outcome = externalized p (layers t)

  pub no-layer : length t < 3 → (refused 6 p ≡ told outcome) × (m ≡ over outcome m)
  unfolding externalized
  no-layer h = stays outcome 6 p m (rw (none t))

  module _ (h : 3 ≤ length t) (f : Bool) (e : f ≡ kept (get_or t 0 0)) where
    pub kept-as-it-is : (l : List ℕ) → length t % 3 ≡ 0 → f ≡ true → l ≡ written t m → (given (length t) ≡ told outcome) × (l ≡ over outcome m)
    unfolding told over
    kept-as-it-is l w q r =
        let k : outcome ≡ given (layers t) = (rw (more t)) ∙ keeps p (head t) (layers (rest t)) (sym e ∙ q) ∙ rw (more t) in
        rw (k, spelled-layers t w) (refl, r)

    module _ (q : f ≡ false) (g : Bool) (d : g ≡ goes (get_or t 0 0)) where
      pub refused-here : g ≡ false → (refused 6 p ≡ told outcome) × (m ≡ over outcome m)
      refused-here n = stays outcome 6 p m ((rw (more t)) ∙ refuses p (head t) (layers (rest t)) (sym e ∙ q) (sym d ∙ n))

      module _ (n : g ≡ true) (y : List ℕ) where
        abbrev within : Answer (List Layer)
        within = externalized (p + 1) (layers (rest t))

        inside : outcome ≡ under (turned (head t) ∷ []) within
        inside = (rw (more t)) ∙ goes-inside p (head t) (layers (rest t)) (sym e ∙ q) (sym d ∙ n)

        module _ (b : y ≡ over within (part 3 m)) where
          pub refused-inside : (i j : ℕ) → refused i j ≡ told within → (refused i j ≡ told outcome) × (put 3 m y ≡ over outcome m)
          unfolding under over
          refused-inside i j a =
              let w : within ≡ refused i j = told-refused within i j a in
              let o : outcome ≡ refused i j = inside ∙ rw w in
              let same : put 3 m y ≡ m = rw (b, w) (put_back 3 m) in
              rw same (stays outcome i j m o)

          pub made_inside : (i : ℕ) (l w : List ℕ) → length t % 3 ≡ 0 → length t ≤ length m → given i ≡ told within →
              w ≡ cond (eqb (get_or t 0 0) kind.arraylike) (words kind.endless_array 0 0) (words (get_or t 0 0) (get_or t 1 0) (get_or t 2 0)) →
              l ≡ written w (put 3 m y) → (given (length t) ≡ told outcome) × (l ≡ over outcome m)
          unfolding under over told spelled
          made_inside i l w whole room a z v =
              let u = told-given within i a in
              by-type u.type u.made
            where
              by-type : (b : List Layer) → within ≡ given b → (given (length t) ≡ told outcome) × (l ≡ over outcome m)
              by-type b' k =
                  let o : outcome ≡ given (turned (head t) ∷ b') = inside ∙ rw k in
                  let count : length t ≡ length (spelled b') + 3 =
                  omega (arith, spelled-length b', same_length (p + 1) (layers (rest t)) b' k, spelled-length (layers t), ap length (spelled-layers t whole), ap length (more t h)) in
                  let front : w ≡ spelled (turned (head t) ∷ []) = z ∙ turned-words (head t) in
                  let size : length w ≡ 3 = rw front in
                  let buffer : l ≡ written (w ++ spelled b') m = v ∙ rw (b, k) (front-last w (spelled b') m 3 size (omega arith)) in
                  rw o (ap given (omega arith), buffer ∙ rw front)

-- the part that it goes inside of has room in the part of the buffer
pub room-inside : (t m : List ℕ) (p : ℕ) → Room t p m → 3 ≤ length t → Room (rest t) (p + 1) (part 3 m)
room-inside t m p r h =
    let n : length (rest t) + 3 ≡ length t = simp (length-take, length-drop) (omega arith) in
    let k : length (part 3 m) + 3 ≡ length m = simp (length-take, length-drop) (omega (arith, r.room)) in
    record {
      whole = omega (arith, r.whole);
      room = omega (arith, r.room);
      near = omega (arith, r.near);
    }
