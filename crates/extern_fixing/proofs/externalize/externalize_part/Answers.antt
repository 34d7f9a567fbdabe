use Rattle.std.proofs.lemmas.Result.{err_from_is_err_and}
use Rattle.write_type.proofs.Outcomes.{carried, stays}
use Rattle.extern_fixing.proofs.Fixes.{ill-formed, not-allowed, allowed, copied}
use Rattle.extern_fixing.proofs.externalize.externalize_part.Goals as goal

pub returns-then-not-is_wellformed : goal.returns-then-not-is_wellformed
returns-then-not-is_wellformed c =
    rw c.into.ensures (stays _ _ _ _ (ill-formed _ _ _ _ _ c.is_wellformed.ensures c.if-not-is_wellformed.true))

pub returns-in_err-externalize_type : goal.returns-in_err-externalize_type
returns-in_err-externalize_type c =
    let p = err_from_is_err_and c.from_residual.result c.from_residual.ensures.1 in
    rw (p.1, p.2)
    (stays _ _ _ _ (not-allowed _ _ _ _ _ c.is_wellformed.ensures c.if-not-is_wellformed.false _ _ c.in_err-externalize_type.ensures.answer))

pub returns : goal.returns
returns c =
    let made = copied c.args.t.now _ c.externalize_type.new.made _ _ c.requires.0.whole c.requires.0.few c.in_ok-externalize_type.ensures.answer c.externalize_type.ensures.buffer in
    carried _ _ _ _ _ (allowed _ _ _ _ _ c.is_wellformed.ensures c.if-not-is_wellformed.false _ made) c.write_type.ensures
