-- An entry's answer, by what the checks of its words said.
-- Assumes nothing.
use mathlib.Core.Path.{◌≡◌, refl, sym, ap, ◌∙◌}
use mathlib.Core.Bool.{Bool, true, false, true≢false, false≢true}
use Prim.Native.Nat.{ℕ}
use Rattle.std.specs.Prelude.{Result, Ok, Err}
use Rattle.type_numbers.specs.Refusal.{number_of}
use Rattle.type_layers.specs.Answer.{Answer, given, nothing, refused, of_result, next, truth, is_given}
use Rattle.type_layers.specs.declared.answers.Refused.{Refused}

module _ {A B : Type 0} (x : Result B Refused) (a : Answer B) (e : of_result x ≡ a) (c : Answer A) where
  pub refuses : (d : Refused) → x ≡ Err d → refused (number_of d.refusal) d.place ≡ next a c
  refuses d h = rw (← e, h)

  pub accepts : (v : B) (r : Answer A) → x ≡ Ok v → r ≡ c → r ≡ next a c
  accepts v r h q = rw (← e, h) q

-- yes or no, where the code holds the rule's outcome
pub answered : (f g : Bool) (r : Answer ℕ) → r ≡ truth f → f ≡ g → r ≡ truth g
answered f g r q e = rw e at q

-- the checks of two types, by whether the left one passes
module _ (x y : Answer ℕ) (good : Bool) (e : good ≡ is_given x) where
  pub left-passes : (r : Answer ℕ) → good ≡ true → r ≡ y → r ≡ next x y
  left-passes r f q = by_answer x (sym e ∙ f)
    where
      by_answer : (z : Answer ℕ) → is_given z ≡ true → r ≡ next z y
      by_answer (given n) g = q
      by_answer nothing g = absurd (false≢true g)
      by_answer (refused n p) g = absurd (false≢true g)

  pub left-fails : (v : Result ℕ Refused) → good ≡ false → of_result v ≡ x → of_result v ≡ next x y
  left-fails (Ok n) f q = absurd (true≢false (ap is_given q ∙ (sym e ∙ f)))
  left-fails (Err d) f q = rw (← q)

-- what follows checks that pass
pub passed : {A : Type 0} (x : Answer ℕ) (c : Answer A) → is_given x ≡ true → next x c ≡ c
passed (given n) c e = refl
passed nothing c e = absurd (false≢true e)
passed (refused n p) c e = absurd (false≢true e)

abbrev pub is_refused : {A : Type 0} → Answer A → Bool
is_refused (given v) = false
is_refused nothing = false
is_refused (refused n p) = true

-- where `next x c` is no refusal, it is c; and with d in the place of c it is d
module _ {A B : Type 0} (e : Answer B) (h : is_refused e ≡ false) (c : Answer B) where
  pub behind : (x : Answer A) → next x c ≡ e → c ≡ e
  behind (given n) q = q
  behind nothing q = q
  behind (refused n p) q = absurd (true≢false (ap is_refused q ∙ h))

  pub instead : (d : Answer B) (x : Answer A) → next x c ≡ e → next x d ≡ d
  instead d (given n) q = refl
  instead d nothing q = refl
  instead d (refused n p) q = absurd (true≢false (ap is_refused q ∙ h))

-- what follows the checks of two types
pub next-next : {A B C : Type 0} (x : Answer A) (y : Answer B) (c : Answer C) → next (next x y) c ≡ next x (next y c)
next-next (given v) y c = refl
next-next nothing y c = refl
next-next (refused n p) y c = refl
