-- A record that stands alone: whether it is in order, and what becomes of it, by what the code tested.
-- Assumes nothing.
use mathlib.Core.Path.{◌≡◌, refl, sym, ap, ◌∙◌}
use mathlib.Core.Bool.{Bool, true, false, cond, not, ◌&&◌, true≢false}
use mathlib.Core.List.{List, [], ◌∷◌}
use Prim.Native.Nat.{ℕ, ◌<◌}
use native.Mathlib.Omega.{arith}
use lib.Dec.{eqb, leb}
use lib.ListN.{length, take}
use lib.Seq.{take_all}
use borrow.Author.Tests.{eqb-false, ne_eqb, lt-leb, not-true}
use Rattle.type_layers.specs.Answer.{is_given, of_result}
use Rattle.type_checks.specs.Check.{check_of}
use Rattle.symbol_order.specs.Order.{known_states, all_free, taken_first, taken, has_id, repeats, passes, all_pass, in_order}
use Rattle.symbol_columns.specs.declared.symbol.Symbol.{Symbol}
use Rattle.symbol_columns.specs.StoredWords.{stored_words}
use Rattle.symbol_update_lone.specs.Lone.{lone_in_order, lone_check, lone_updated}
use Rattle.std.specs.Prelude.{Result, Ok, Err}
use Rattle.type_layers.specs.declared.answers.Refused.{Refused}
use Rattle.write_answer.specs.declared.answer.Answer.{Answer}
use Rattle.write_answer.specs.Flat.{flat}

-- a table of one record
module _ (s : Symbol) (ws : List ℕ) where
  pub one : lone_in_order s ws
      ≡ cond (eqb (length ws) 48) (cond (eqb s.state 0) false (leb s.state 2 && passes s.state s.layers (take 48 ws))) false
  unfolding lone_in_order in_order known_states taken_first all_free taken repeats has_id all_pass
  one = by_tests (eqb s.state 0) (leb s.state 2) (passes s.state s.layers (take 48 ws)) (eqb (length ws) 48)
    where
      by_tests : (f k p l : Bool) →
          ((k && true) && cond f true true && not (repeats (cond f [] (s ∷ []))) && (p && true) && l && not f)
          ≡ cond l (cond f false (k && p)) false
      by_tests true true true true = refl
      by_tests true true true false = refl
      by_tests true true false true = refl
      by_tests true true false false = refl
      by_tests true false p true = refl
      by_tests true false p false = refl
      by_tests false true true true = refl
      by_tests false true true false = refl
      by_tests false true false true = refl
      by_tests false true false false = refl
      by_tests false false p true = refl
      by_tests false false p false = refl

  pub miscounted : (length ws ≡ 48 → ⊥) → false ≡ lone_in_order s ws
  miscounted h = rw (one, ne_eqb (length ws) 48 h)

  module _ (h : length ws ≡ 48) where
    pub poisoned_fits : s.state ≡ 2 → true ≡ lone_in_order s ws
    unfolding passes
    poisoned_fits e = rw (one, h, e)

    module _ (p : s.state ≡ 2 → ⊥) where
      pub not_taken : (s.state ≡ 1 → ⊥) → false ≡ lone_in_order s ws
      not_taken t = by-free (eqb s.state 0) refl
        where
          by-free : (f : Bool) → eqb s.state 0 ≡ f → false ≡ lone_in_order s ws
          by-free true e = rw (one, h, e)
          by-free false e =
              let over : 2 < s.state = omega (arith, eqb-false s.state 0 e, p, t) in
              rw (one, h, e, lt-leb s.state 2 over)

      module _ (t : s.state ≡ 1) where
        pub typed_fits : (stored : List ℕ) (r : Bool) → stored ≡ stored_words s.layers ws → r ≡ is_given (check_of stored) → r ≡ lone_in_order s ws
        unfolding passes
        typed_fits stored r q f = rw (one, h, t, take_all 48 ws (omega (arith, h)), ← q, f)

-- the refusals of the offered words come first; g is whether they pass
pub answers-refused : (s : Symbol) (ws : List ℕ) (authority : Bool) (offered : List ℕ) (g : Bool) → g ≡ is_given (check_of offered) → not g ≡ true →
    (x : Result ℕ Refused) → of_result x ≡ check_of offered → (id place : ℕ) (a : Answer) → a ≡ flat (of_result x) →
    record { symbol = s; answer = a } ≡ lone_updated s ws id authority place offered
unfolding lone_updated lone_check flat
answers-refused s ws authority offered g e f x q id place a h = by-checks x q h
  where
    by-checks : (y : Result ℕ Refused) → of_result y ≡ check_of offered → a ≡ flat (of_result y) →
        record { symbol = s; answer = a } ≡ lone_updated s ws id authority place offered
    by-checks (Ok n) p r = absurd (true≢false (ap is_given p ∙ (sym e ∙ not-true g f)))
    by-checks (Err y) p r = rw (← p, r)
