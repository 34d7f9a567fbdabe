use mathlib.Core.Path.{◌≡◌, ◌∙◌}
use Rattle.std.proofs.Common.{arith}
use Rattle.std.proofs.lemmas.Grind.{common_steps}
use Rattle.type_numbers.specs.Refusal.{number_of}
use Rattle.symbol_slot.specs.Way as way
use Rattle.symbol_slot.specs.AsCoded.{of_way}
use Rattle.symbol_slot.proofs.Decided.{offer-refused}
use Rattle.symbol_slot.proofs.slot.way_of.Goals as goal

pub returns-in_err-check_type : goal.returns-in_err-check_type
returns-in_err-check_type c =
    let x = c.in_err-check_type.field-0.0 in
    let i : of_way c.from_residual.result ≡ way.refused (number_of x.refusal) x.place = grind (arith, common_steps) in
    i ∙ offer-refused _ _ _ _ _ c.check_type.result (rw (← c.offers_type.ensures, c.if-offers_type.true) c.check_type.ensures) x c.in_err-check_type.was
