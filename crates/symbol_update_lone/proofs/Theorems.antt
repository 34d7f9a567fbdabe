-- What follows from the rule of a lone record alone.
-- Assumes nothing.
use mathlib.Core.Path.{◌≡◌, refl, sym, ap, subst, ◌∙◌}
use mathlib.Core.Bool.{Bool, true, false, cond, not, ◌&&◌, ◌||◌, false≢true}
use mathlib.Core.List.{List}
use Prim.Native.Nat.{ℕ, ◌/◌, ◌%◌, ◌≤◌}
use native.Mathlib.Omega.{arith}
use lib.Dec.{eqb, leb}
use lib.ListN.{length, take}
use lib.Seq.{take_all}
use borrow.Author.Tests.{eqb-true}
use Rattle.type_layers.specs.Layers.{layers}
use Rattle.type_layers.specs.Answer as paper
use Rattle.type_layers.specs.Answer.{given, nothing, refused, next, is_given}
use Rattle.type_checks.specs.Check.{bad_count, bad_layer, misplaced, check_of, unless}
use Rattle.type_checks.proofs.Checks.{start}
use Rattle.write_words.specs.Written.{written}
use Rattle.write_words.proofs.Writing.{length-written}
use Rattle.symbol_order.specs.Order as order
use Rattle.symbol_columns.specs.declared.symbol.Symbol.{Symbol}
use Rattle.write_answer.specs.declared.answer.Answer.{Answer}
use Rattle.symbol_update.specs.Update.{typed, updated, words_after}
use Rattle.symbol_update.specs.Updated.{Updated}
use Rattle.symbol_update.proofs.Cases.{by_lines}
use Rattle.symbol_update.proofs.Theorems.{stored-written, unchanged}
use Rattle.symbol_update_lone.specs.Lone.{lone_in_order, lone_check, unless_refused, lone_updated, kept_where_refused, lone_words_after}
use Rattle.symbol_update_lone.proofs.Alone.{one}

-- words that pass the checks
counted : (ws : List ℕ) → is_given (check_of ws) ≡ true → (length ws ≤ 48) × (length ws % 3 ≡ 0)
unfolding check_of
counted ws e = by_count (bad_count (length ws)) refl e
  where
    by_count : (b : Bool) → bad_count (length ws) ≡ b →
        is_given (cond b (refused 1 0) (unless (bad_layer 0 (layers ws)) 2 (unless (misplaced 0 (layers ws)) 3 (given (length ws / 3))))) ≡ true →
        (length ws ≤ 48) × (length ws % 3 ≡ 0)
    by_count true c f = absurd (false≢true f)
    by_count false c f = ((start ws c).few, (start ws c).whole)

-- what is offered and the lone record pass the checks
both-pass : (x : paper.Answer ℕ) (b : Bool) → is_given x ≡ true → b ≡ true → next {B = ℕ} x (cond b (given 0) (refused 12 0)) ≡ given 0
both-pass (given n) true e f = refl
both-pass (given n) false e f = absurd (false≢true f)
both-pass nothing b e f = absurd (false≢true e)
both-pass (refused n p) b e f = absurd (false≢true e)

module _ (s : Symbol) (ws : List ℕ) (id : ℕ) (authority : Bool) (place : ℕ) (offered : List ℕ) where
  abbrev lone : Updated
  lone = lone_updated s ws id authority place offered

  abbrev rest : Updated
  rest = updated s ws id authority place offered

  -- An update of a lone record that is refused, or accepted with 0, changes nothing.
  pub lone-unchanged : (lone.answer.refusal ≡ 0 → lone.answer.value ≡ 0) →
      (lone.symbol ≡ s) × (lone_words_after s ws authority offered ≡ ws)
  unfolding lone_updated lone_words_after
  lone-unchanged = by-check (lone_check s ws offered)
    where
      by-check : (c : paper.Answer ℕ) →
          ((unless_refused c s rest).answer.refusal ≡ 0 → (unless_refused c s rest).answer.value ≡ 0) →
          ((unless_refused c s rest).symbol ≡ s) × (kept_where_refused c ws (words_after s ws authority offered) ≡ ws)
      by-check (given n) h = unchanged s ws id authority place offered h
      by-check nothing h = unchanged s ws id authority place offered h
      by-check (refused n p) h = (refl, refl)

  module _ (e : is_given (check_of offered) ≡ true) (o : lone_in_order s ws ≡ true) where
    pass : lone_check s ws offered ≡ given 0
    unfolding lone_check
    pass = both-pass (check_of offered) (lone_in_order s ws) e o

    all : length ws ≡ 48
    all = by_count (eqb (length ws) 48) refl (rw (one s ws) at o)
      where
        by_count : (l : Bool) → eqb (length ws) 48 ≡ l →
            cond l (cond (eqb s.state 0) false (leb s.state 2 && order.passes s.state s.layers (take 48 ws))) false ≡ true → length ws ≡ 48
        by_count true i f = eqb-true (length ws) 48 i
        by_count false i f = absurd (false≢true f)

    in-order-typed : (i : ℕ) (a : Bool) (p : ℕ) → lone_in_order (typed i a p offered) (written offered ws) ≡ true
    unfolding order.passes
    in-order-typed i a p =
        let c = counted offered e in
        let few : length offered ≤ length ws = omega (arith, c.0, all) in
        let all' : length (written offered ws) ≤ 48 = rw (length-written offered ws) (omega (arith, all)) in
        rw (one, length-written offered ws, all, take_all 48 (written offered ws) all', stored-written offered ws few c.1, e)

    -- A lone record in order, offered what passes the checks, is in order afterwards too.
    pub stays-in-order : lone_in_order lone.symbol (lone_words_after s ws authority offered) ≡ true
    unfolding lone_updated lone_words_after
    stays-in-order =
        rw pass
        (by_lines s ws id authority place offered (λ t u a. lone_in_order t u ≡ true) o o
        (in-order-typed s.id s.authority s.place) (in-order-typed id authority place) o)

-- An answer that tells of no change: a refusal, or value 0. Of such an update the symbol is what it was.
abbrev pub quiet : Answer → Bool
quiet a = not (eqb a.refusal 0) || eqb a.value 0

silent : (a : Answer) → quiet a ≡ true → a.refusal ≡ 0 → a.value ≡ 0
silent a q e = eqb-true a.value 0 (rw e at q)

pub still : (s : Symbol) (ws : List ℕ) (id : ℕ) (authority : Bool) (place : ℕ) (offered : List ℕ) (r : Updated) →
    r ≡ lone_updated s ws id authority place offered → quiet r.answer ≡ true → s ≡ r.symbol
still s ws id authority place offered r e q =
    let same = ap (λ (u : Updated). u.answer) e in
    sym (lone-unchanged s ws id authority place offered (silent (lone_updated s ws id authority place offered).answer (subst (λ (a : Answer). quiet a ≡ true) same q))).0
    ∙ sym (ap (λ (u : Updated). u.symbol) e)
