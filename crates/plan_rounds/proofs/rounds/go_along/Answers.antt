use Rattle.std.proofs.Common.{refl, ◌≤◌, ◌<◌, length, arith}
use mathlib.Core.Logic.{◌⊎◌, inl, inr}
use Rattle.std.proofs.lemmas.Result.{err_from_is_err_and}
use Rattle.plan_rounds.proofs.Going.{stops, took, kept, ends}
use Rattle.plan_rounds.proofs.rounds.go_along.Goals as goal
use Rattle.plan_rounds.proofs.rounds.go_along.Goals.{then-takes, else-takes, else-loop-test, then-loop-test+in_default}

pub returns-in_default-turn_at-clause-err : goal.returns-in_default-turn_at-clause-err
returns-in_default-turn_at-clause-err c =
    stops _ _ _ _ _ _ _ _ _ c.loop.invariant c.loop-test.true c.in-len4-up.len_at_least _ c.from-asked.ensures _ c.in_default-turn_at.ensures 8 0 refl

pub returns-in_err-cur-clause-err : goal.returns-in_err-cur-clause-err
returns-in_err-cur-clause-err c =
    let p = err_from_is_err_and c.from_residual.result c.from_residual.ensures.1 in
    rw (p.1, p.2)
    (stops _ _ _ _ _ _ _ _ _ c.loop.invariant c.loop-test.true c.in-len4-up.len_at_least _ c.from-asked.ensures _ c.in-Some.ensures _ _ c.in_err-cur.ensures.err)

pub loop-preserved : goal.loop-preserved
loop-preserved c =
    let n = c.in_ok-cur.ensures.ok in
    elim c.if-takes.branch [
      | then-takes w ↦
          took _ _ _ _ _ _ c.loop.rest.now _ _ c.loop.invariant c.loop-test.true c.in-len4-up.len_at_least _ c.from-asked.ensures _ c.in-Some.ensures _ n.0 n.1 _ c.add.ensures w.if-takes.ensures _ (rw w.rest-is refl) _ w.taken-is
      | else-takes w ↦
          kept _ _ _ _ _ _ c.loop.rest.now _ _ c.loop.invariant c.loop-test.true c.in-len4-up.len_at_least _ c.from-asked.ensures _ c.in-Some.ensures _ n.0 n.1 _ c.add.ensures w.if-takes.ensures _ (rw w.rest-is refl) _ w.taken-is
    ]

pub returns-clause-ok : goal.returns-clause-ok
returns-clause-ok c =
    let out : (c.args.question.now.rounds ≤ c.loop.counter) ⊎ (length c.loop.rest.now < 4) =
    elim c.loop-test.branch [ else-loop-test w ↦ inl w.loop-test.false | then-loop-test+in_default w ↦ inr w.in_default.len_below ] in
    (ends _ _ _ _ _ _ _ _ _ c.loop.invariant out, c.loop.invariant.whole, omega (arith, c.requires.whole.1))
