use Rattle.std.proofs.lemmas.Result.{err_from_is_err_and}
use Rattle.sheet_read.proofs.Checking.{some-count, no-count, no-sheet, check-begin, refused-here, check-more, check-end}
use Rattle.sheet_read.proofs.reading.read_words.Goals as goal

pub returns-in_err-n : goal.returns-in_err-n
returns-in_err-n c =
    let p = err_from_is_err_and c.from_residual.result c.from_residual.ensures.1 in
    let q = no-count _ _ _ c.in_err-n.ensures.value _ c.types_in.ensures.is in
    rw (p.1, p.2, q.1) (no-sheet _ q.0)

pub loop-k-init : goal.loop-k-init
loop-k-init c = check-begin _ _ (some-count _ _ _ c.in_ok-n.ensures.value _ c.types_in.ensures.is)

pub loop-k-preserved : goal.loop-k-preserved
loop-k-preserved c =
    check-more _ _ (some-count _ _ _ c.in_ok-n.ensures.value _ c.types_in.ensures.is) _ c.loop-k.invariant c.loop-k-test.true _ c.type_at.ensures _ c.in_ok-check_type.ensures

pub returns-in_err-check_type : goal.returns-in_err-check_type
returns-in_err-check_type c =
    let p = err_from_is_err_and c.from_residual-in_err-check_type.result c.from_residual-in_err-check_type.ensures.1 in
    rw (p.1, p.2)
    (refused-here _ _ (some-count _ _ _ c.in_ok-n.ensures.value _ c.types_in.ensures.is) _ c.loop-k.invariant c.loop-k-test.true _ c.type_at.ensures _ _ c.in_err-check_type.ensures)

pub returns : goal.returns
returns c = check-end _ _ (some-count _ _ _ c.in_ok-n.ensures.value _ c.types_in.ensures.is) _ c.loop-k.invariant c.loop-k-test.false
