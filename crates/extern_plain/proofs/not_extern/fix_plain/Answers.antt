use mathlib.Core.Path.{◌≡◌, ap, refl}
use native.Mathlib.Omega.{arith}
use Rattle.type_numbers.specs.Kind as kind
use Rattle.type_layers.specs.Layers.{layers, outer}
use Rattle.type_layers.specs.Answer.{given}
use Rattle.write_type.specs.Outcome.{delivered}
use Rattle.write_type.proofs.Outcomes.{carried}
use Rattle.extern_plain.proofs.Fronts.{fronts, as-slice-pointer}
use Rattle.extern_plain.proofs.not_extern.fix_plain.Goals as goal
use Rattle.extern_plain.proofs.not_extern.fix_plain.Goals.{in_default-via-in-20+else-is_viewed, in_default-via-in-23+else-outer-eq-ARRAYLIKE, in_default-via-in_default-1}

pub returns-in-23 : goal.returns-in-23
returns-in-23 c =
    let pointee : outer (layers c.inner-in-23.result.now) ≡ kind.arraylike = grind arith in
    carried _ _ _ _ _ (ap (delivered _) (ap given (as-slice-pointer _ c.args.context _ c.outer.ensures (λ h. omega (arith, c.in-23.is, h)) _ refl (rw c.in-23.is)
    _ _ c.inner-in-23.ensures refl _ _ (rw (c.in-23.is, pointee)) c.plain-in-23.ensures c.inner-in-23-2.ensures))) c.write_type-in-23.ensures

pub returns-in_default : goal.returns-in_default
returns-in_default c = elim c.in_default.branch [
  | in_default-via-in-20+else-is_viewed w ↦ grind (arith, fronts)
  | in_default-via-in-23+else-outer-eq-ARRAYLIKE w ↦ grind (arith, fronts)
  | in_default-via-in_default-1 w ↦ grind (arith, fronts)
]
