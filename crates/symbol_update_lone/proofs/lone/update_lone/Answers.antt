use mathlib.Core.Path.{◌≡◌, refl, sym, ap, ◌∙◌}
use mathlib.Core.Bool.{Bool, false, not}
use mathlib.Core.List.{List}
use Prim.Native.Nat.{ℕ}
use lib.Dec.{eqb}
use borrow.Author.Tests.{ne_eqb}
use Rattle.std.proofs.Common.{arith}
use Rattle.std.proofs.lemmas.Grind.{common_steps}
use Rattle.type_numbers.specs.Refusal.{number_of}
use Rattle.type_layers.specs.Answer as paper
use Rattle.type_layers.specs.Answer.{is_given, of_result}
use Rattle.type_layers.specs.declared.answers.Refused.{Refused}
use Rattle.symbol_columns.specs.declared.symbol.Symbol.{Symbol}
use Rattle.write_answer.specs.Flat.{flat, not_accepted}
use Rattle.symbol_update.specs.AsCoded.{told}
use Rattle.symbol_update.specs.Updated.{Updated}
use Rattle.symbol_update.proofs.Told.{numbered}
use Rattle.symbol_update_lone.specs.Lone.{lone_updated, lone_check}
use Rattle.symbol_update_lone.proofs.Alone.{answers-refused}
use Rattle.symbol_update_lone.proofs.Theorems.{still}
use Rattle.symbol_update_lone.proofs.lone.update_lone.Goals as goal

-- where the update is refused nothing is stored
stays : (s : Symbol) (ws : List ℕ) (id : ℕ) (authority : Bool) (place : ℕ) (offered : List ℕ) (x : Refused) →
    not_accepted (number_of x.refusal) x.place ≡ (lone_updated s ws id authority place offered).answer →
    s ≡ (lone_updated s ws id authority place offered).symbol
stays s ws id authority place offered x e =
    let f : eqb (number_of x.refusal) 0 ≡ false = ne_eqb (number_of x.refusal) 0 (λ q. omega (arith, q, numbered x.refusal)) in
    still s ws id authority place offered (lone_updated s ws id authority place offered) refl (rw (← e, f))

-- the refusal of the offered words is the answer
refused : (c : goal.After-from_residual) →
    not_accepted (number_of c.in_err-check_type.field-0.0.refusal) c.in_err-check_type.field-0.0.place
    ≡ (lone_updated c.args.symbol.now c.args.words.now c.args.name.id c.args.name.authority c.args.name.place c.args.offered.now).answer
unfolding flat
refused c =
    let fails = ap (λ (a : paper.Answer ℕ). not (is_given a)) (sym c.in_err-check_type.ensures) in
    ap (λ r. flat (of_result r)) (sym c.in_err-check_type.was)
    ∙ ap (λ (u : Updated). u.answer) (answers-refused _ _ _ _ _ refl fails c.check_type.result c.check_type.ensures _ _ _ refl)

pub returns-in_err-check_type-clause-answer : goal.returns-in_err-check_type-clause-answer
returns-in_err-check_type-clause-answer c =
    let x = c.in_err-check_type.field-0.0 in
    let i : told c.from_residual.result ≡ not_accepted (number_of x.refusal) x.place = grind (arith, common_steps) in
    i ∙ refused c

pub returns-in_err-check_type-clause-recorded : goal.returns-in_err-check_type-clause-recorded
returns-in_err-check_type-clause-recorded c = stays _ _ _ _ _ _ c.in_err-check_type.field-0.0 (refused c)

pub returns-then-not-in_order-clause-recorded : goal.returns-then-not-in_order-clause-recorded
unfolding lone_updated lone_check
returns-then-not-in_order-clause-recorded c =
    stays _ _ _ _ _ _ c.into.result (rw (c.into.ensures, ← c.in_ok-check_type.ensures, ← c.in_order.ensures, c.if-not-in_order.true))
