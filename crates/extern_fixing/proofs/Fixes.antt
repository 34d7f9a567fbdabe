-- What becomes of a type, by what the code tested.
-- Assumes nothing.
use mathlib.Core.Path.{◌≡◌, refl, sym, ap, ◌∙◌}
use mathlib.Core.Bool.{Bool, true, false}
use mathlib.Core.List.{List, [], ◌∷◌, ◌++◌}
use Prim.Native.Nat.{ℕ, ◌%◌, ◌≤◌, ◌<◌}
use native.Mathlib.Omega.{arith}
use lib.Dec.{ltb}
use lib.ListN.{length, take, drop}
use lib.Seq.{take_at}
use borrow.Author.Tests.{eq-eqb, ne_eqb, lt-ltb, le-ltb}
use Rattle.type_numbers.specs.Kind as kind
use Rattle.type_layers.specs.Layers.{Layer, layer, layers, outer, spelled}
use Rattle.type_layers.specs.AsCoded.{Whole}
use Rattle.type_layers.specs.Answer.{Answer, given, nothing, refused}
use Rattle.type_checks.specs.Check.{check_of}
use Rattle.type_layers.proofs.Words.{inner-layers, inner-whole}
use Rattle.type_wellformed.specs.WellFormed.{well_formed}
use Rattle.write_words.specs.Written.{written}
use Rattle.write_words.proofs.Writing.{fits}
use Rattle.extern_fixing.specs.Fixing.{under, externalized, externalize, fixed_extern, fixed}
use Rattle.type_numbers.specs.Context.{member, number_of}
use Rattle.type_numbers.specs.declared.context.Context.{Context}
use Rattle.type_numbers.specs.declared.context.Context.TheVariants as of-context
use Rattle.extern_plain.specs.Plain.{fixed_plain}
use Rattle.write_type.specs.Outcome.{delivered, told, over}
use Rattle.type_checks.proofs.Accepted.{accepted-whole}
use Rattle.extern_fixing.specs.Answers.{fixed_type}
use Rattle.type_layers.proofs.Spelling.{spelled-length, spelled-layers, layers-spelled}
use Rattle.extern_fixing.proofs.Externalizing.{told-refused, told-given, same_length}

-- words that pass the checks are whole layers, and so are those inside
pub checked-whole : (ws : List ℕ) (i : ℕ) → given i ≡ check_of ws → Whole ws
checked-whole ws i e = accepted-whole ws i (sym e)

pub whole-inside : (ws l : List ℕ) → Whole ws → l ≡ drop 3 ws → Whole l
whole-inside ws l w e = rw e (inner-whole ws w)

-- extern: the type handed to externalizing
module _ (room place : ℕ) (front : List Layer) (t : List ℕ) where
  abbrev made_of : Answer (List Layer)
  made_of = delivered room (under front (externalize place (layers t)))

  module _ (f : Bool) (e : f ≡ well_formed (layers t)) where
    pub ill-formed : f ≡ false → made_of ≡ refused 4 0
    unfolding externalize under delivered
    ill-formed n = rw (← e, n)

    module _ (n : f ≡ true) where
      pub not-allowed : (i j : ℕ) → refused i j ≡ told (externalized place (layers t)) → made_of ≡ refused i j
      unfolding externalize under delivered
      not-allowed i j a =
          let w = told-refused (externalized place (layers t)) i j a in
          rw (← e, n, w)

      pub allowed : (b : List Layer) → externalized place (layers t) ≡ given b → delivered room (given (front ++ b)) ≡ made_of
      unfolding externalize under
      allowed b w = rw (← e, n, w)

-- the words that it made are the front of the buffer
pub copied : (t z made : List ℕ) (place i : ℕ) → length t % 3 ≡ 0 → length t ≤ length z → given i ≡ told (externalized place (layers t)) →
    made ≡ over (externalized place (layers t)) z → externalized place (layers t) ≡ given (layers (take (length t) made))
unfolding over
copied t z made place i whole room a d =
    let u = told-given (externalized place (layers t)) i a in
    by-type u.type u.made
  where
    by-type : (b : List Layer) → externalized place (layers t) ≡ given b → externalized place (layers t) ≡ given (layers (take (length t) made))
    by-type b k =
        let n : length (spelled b) ≡ length t =
        omega (arith, spelled-length b, same_length place (layers t) b k, spelled-length (layers t), ap length (spelled-layers t whole)) in
        let w : made ≡ written (spelled b) z = d ∙ rw k in
        let v : made ≡ spelled b ++ drop (length (spelled b)) z = w ∙ fits (spelled b) z (omega arith) in
        k ∙ rw (v, take_at (spelled b) (drop (length (spelled b)) z) (length t) n, layers-spelled b)

under_none : (o : Answer (List Layer)) → under [] o ≡ o
unfolding under
under_none (given a) = refl
under_none nothing = refl
under_none (refused n p) = refl

module _ (ws : List ℕ) (k : ℕ) (e : k ≡ outer (layers ws)) where
  pub as-endless : (front l : List ℕ) → front ≡ spelled (layer kind.view 0 0 ∷ layer kind.endless_array 0 0 ∷ []) → l ≡ drop 3 ws → k ≡ kind.arraylike →
      under (layers front) (externalize 1 (layers l)) ≡ fixed_extern (layers ws)
  unfolding layers spelled fixed_extern
  as-endless front l f d h = rw (f, d, inner-layers ws, ← e, eq-eqb k kind.arraylike h)

  pub as-any : (k ≡ kind.arraylike → ⊥) → under (layers []) (externalize 0 (layers ws)) ≡ fixed_extern (layers ws)
  unfolding layers fixed_extern
  as-any n = rw (← e, ne_eqb k kind.arraylike n) (under_none (externalize 0 (layers ws)))

small : (c : Context) → number_of c ≤ member
small of-context.Const = omega arith
small of-context.Parameter = omega arith
small of-context.Returned = omega arith
small of-context.Member = omega arith

-- for any words: the first refusal, or both ways of fixing
module _ (t : List ℕ) (external : Bool) (context room : ℕ) where
  pub unchecked : (n p : ℕ) → refused n p ≡ check_of t → fixed_type t external context room ≡ refused n p
  unfolding fixed_type
  unchecked n p e = rw (← e)

  module _ (i : ℕ) (e : given i ≡ check_of t) where
    pub no-context : member < context → fixed_type t external context room ≡ refused 5 0
    unfolding fixed_type delivered fixed
    no-context h = rw (← e, lt-ltb member context h)

    module _ (c : Context) (h : number_of c ≡ context) where
      known : ltb member context ≡ false
      known = le-ltb member context (rw h at (small c))

      pub for-extern : external ≡ true → delivered room (fixed_extern (layers t)) ≡ fixed_type t external context room
      unfolding fixed_type fixed
      for-extern f = rw (← e, known, f)

      pub for-plain : external ≡ false → delivered room (given (fixed_plain context (layers t))) ≡ fixed_type t external context room
      unfolding fixed_type fixed
      for-plain f = rw (← e, known, f)
