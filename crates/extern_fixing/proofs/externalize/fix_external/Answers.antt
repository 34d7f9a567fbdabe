use mathlib.Core.Path.{ap}
use Rattle.write_type.specs.Outcome.{delivered}
use Rattle.write_type.proofs.Outcomes.{carried}
use Rattle.extern_fixing.proofs.Fixes.{as-endless, as-any}
use Rattle.extern_fixing.proofs.externalize.fix_external.Goals as goal

pub returns-then-outer-eq-ARRAYLIKE : goal.returns-then-outer-eq-ARRAYLIKE
returns-then-outer-eq-ARRAYLIKE c =
    let front = rw (c.plain.ensures, c.plain-then-outer-eq-ARRAYLIKE.ensures) at c.two_layers-front.ensures in
    carried _ _ _ _ _ (ap (delivered _) (as-endless _ _ c.outer.ensures _ _ front c.inner.ensures c.if-outer-eq-ARRAYLIKE.true)) c.externalize_part.ensures

pub returns-else-outer-eq-ARRAYLIKE : goal.returns-else-outer-eq-ARRAYLIKE
returns-else-outer-eq-ARRAYLIKE c =
    carried _ _ _ _ _ (ap (delivered _) (as-any _ _ c.outer.ensures c.if-outer-eq-ARRAYLIKE.false)) c.externalize_part-else-outer-eq-ARRAYLIKE.ensures
