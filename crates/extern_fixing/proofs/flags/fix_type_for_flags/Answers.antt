use native.Mathlib.Omega.{arith}
use Rattle.std.proofs.lemmas.Result.{err_from_is_err_and}
use Rattle.extern_fixing.specs.Answers.{fixed_answer, fixed_buffer}
use Rattle.write_type.proofs.Outcomes.{carried, stays}
use Rattle.extern_fixing.proofs.Fixes.{checked-whole, unchecked, no-context, for-extern, for-plain}
use Rattle.extern_fixing.proofs.flags.fix_type_for_flags.Goals as goal

pub fix_external-requires : goal.fix_external-requires
fix_external-requires c = checked-whole _ _ c.in_ok-check_type.ensures

pub returns-in_err-check_type-clause-answer : goal.returns-in_err-check_type-clause-answer
unfolding fixed_answer fixed_buffer
returns-in_err-check_type-clause-answer c = let p = err_from_is_err_and c.from_residual.result c.from_residual.ensures.1 in rw (p.1, p.2) (stays _ _ _ c.args.out.now (unchecked _ _ _ _ _ _ c.in_err-check_type.ensures)).0

pub returns-in_err-check_type-clause-buffer : goal.returns-in_err-check_type-clause-buffer
unfolding fixed_answer fixed_buffer
returns-in_err-check_type-clause-buffer c = (stays _ _ _ c.args.out.now (unchecked _ _ _ _ _ _ c.in_err-check_type.ensures)).1

pub returns-in_err-try_from-clause-answer : goal.returns-in_err-try_from-clause-answer
unfolding fixed_answer fixed_buffer
returns-in_err-try_from-clause-answer c = let p = err_from_is_err_and c.from_residual-in_err-try_from.result c.from_residual-in_err-try_from.ensures.1 in rw (p.1, p.2, c.in_err-try_from.ensures.0) (stays _ _ _ c.args.out.now (no-context _ _ c.args.context _ _ c.in_ok-check_type.ensures (omega (arith, c.in_err-try_from.ensures.1)))).0

pub returns-in_err-try_from-clause-buffer : goal.returns-in_err-try_from-clause-buffer
unfolding fixed_answer fixed_buffer
returns-in_err-try_from-clause-buffer c = (stays _ _ _ c.args.out.now (no-context _ _ c.args.context _ _ c.in_ok-check_type.ensures (omega (arith, c.in_err-try_from.ensures.1)))).1

pub returns-then-external-clause-answer : goal.returns-then-external-clause-answer
unfolding fixed_answer fixed_buffer
returns-then-external-clause-answer c = (carried _ _ _ _ _ (for-extern _ _ _ _ _ c.in_ok-check_type.ensures _ c.in_ok-try_from.ensures c.if-external.true) c.fix_external.ensures).0

pub returns-then-external-clause-buffer : goal.returns-then-external-clause-buffer
unfolding fixed_answer fixed_buffer
returns-then-external-clause-buffer c = (carried _ _ _ _ _ (for-extern _ _ _ _ _ c.in_ok-check_type.ensures _ c.in_ok-try_from.ensures c.if-external.true) c.fix_external.ensures).1

pub returns-else-external-clause-answer : goal.returns-else-external-clause-answer
unfolding fixed_answer fixed_buffer
returns-else-external-clause-answer c = (carried _ _ _ _ _ (for-plain _ _ _ _ _ c.in_ok-check_type.ensures _ c.in_ok-try_from.ensures c.if-external.false) c.fix_plain.ensures).0

pub returns-else-external-clause-buffer : goal.returns-else-external-clause-buffer
unfolding fixed_answer fixed_buffer
returns-else-external-clause-buffer c = (carried _ _ _ _ _ (for-plain _ _ _ _ _ c.in_ok-check_type.ensures _ c.in_ok-try_from.ensures c.if-external.false) c.fix_plain.ensures).1
