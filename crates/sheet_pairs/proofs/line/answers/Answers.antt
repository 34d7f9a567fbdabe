use Rattle.relation_coerces.proofs.Theorems.{as-value, by-address}
use Rattle.sheet_pairs.specs.Text.{answers}
use Rattle.sheet_pairs.proofs.line.answers.Goals as goal

pub returns : goal.returns
unfolding answers
returns c =
    rw (c.digit.ensures, c.equals.ensures, c.digit-2.ensures, c.can_be_declared_as.ensures, c.digit-3.ensures, c.can_be_concretization_of.ensures, c.digit-4.ensures, c.is_as_value.ensures, c.digit-5.ensures, c.is_by_address.ensures, c.coerces-coercion.ensures, as-value, by-address, c.digit-6.ensures, c.can_autoderef_into.ensures)
