use Rattle.std.proofs.Common.{refl, sym, ◌∙◌}
use Rattle.std.proofs.lemmas.Result.{err_from_is_err_and}
use Rattle.type_checks.proofs.Accepted.{accepted-whole}
use Rattle.symbol_columns.specs.Table.{records}
use Rattle.walker_run.specs.Walked.{walk_from, walk_to}
use Rattle.walker_run.proofs.Stepping.{writes-refused, writes-same, no-type, no_steps, not-ordered, is-ordered}
use Rattle.walker_run.proofs.steps_taken.walk_checked.Goals as goal

pub returns-in_err-check_type : goal.returns-in_err-check_type
returns-in_err-check_type c =
    let a = c.args in
    let p = err_from_is_err_and c.from_residual.result c.from_residual.ensures.1 in
    writes-refused a.out.now (walk_to a.known.now a.steps.now a.address (records a.table.now) a.table.now.store.now) _ p.0 p.1
    (rw p.2 (no-type a.known.now a.steps.now a.table.now.store.now a.address (records a.table.now) _ c.in_err-check_type.ensures))

pub returns-in_err-check_steps : goal.returns-in_err-check_steps
returns-in_err-check_steps c =
    let a = c.args in
    let f = c.from_residual-in_err-check_steps in
    let p = err_from_is_err_and f.result f.ensures.1 in
    writes-refused a.out.now (walk_to a.known.now a.steps.now a.address (records a.table.now) a.table.now.store.now) _ p.0 p.1
    (rw p.2 (no_steps a.known.now a.steps.now a.table.now.store.now a.address (records a.table.now) _ c.in_ok-check_type.ensures _ c.in_err-check_steps.ensures))

pub returns-then-not-in_order : goal.returns-then-not-in_order
returns-then-not-in_order c =
    let a = c.args in
    writes-refused a.out.now (walk_to a.known.now a.steps.now a.address (records a.table.now) a.table.now.store.now) _ c.into.result refl
    (rw c.into.ensures
    (not-ordered a.known.now a.steps.now a.table.now.store.now a.address (records a.table.now) _ c.in_ok-check_type.ensures _ c.in_ok-check_steps.ensures _ c.in_order.ensures c.if-not-in_order.true))

pub take_steps-requires : goal.take_steps-requires
take_steps-requires c = (accepted-whole _ _ (sym c.in_ok-check_type.ensures), sym c.in_order.ensures ∙ c.if-not-in_order.false)

pub returns : goal.returns
returns c =
    let a = c.args in
    writes-same a.out.now (walk_from a.known.now a.steps.now a.address (records a.table.now) a.table.now.store.now)
    (walk_to a.known.now a.steps.now a.address (records a.table.now) a.table.now.store.now) _ _ c.take_steps.ensures
    (is-ordered a.known.now a.steps.now a.table.now.store.now a.address (records a.table.now) _ c.in_ok-check_type.ensures _ c.in_ok-check_steps.ensures _ c.in_order.ensures c.if-not-in_order.false)
