use mathlib.Core.Path.{◌∙◌}
use Rattle.sheet_contents.proofs.Shape.{no_words, bad-number, too_few, counts, bad-counts, all_there}
use Rattle.sheet_contents.proofs.bodies.types_in.Goals as goal

pub returns-in_default-clause-is : goal.returns-in_default-clause-is
returns-in_default-clause-is c = search no_words

pub returns-then-not-up_to-clause-is : goal.returns-then-not-up_to-clause-is
returns-then-not-up_to-clause-is c = search bad-number

pub returns-in_err-get-clause-is : goal.returns-in_err-get-clause-is
returns-in_err-get-clause-is c = c.from_residual.ensures ∙ too_few _ c.in-len1-up.len_at_least c.in_err-get.ensures.lookup.0

pub returns-in_err-layers-clause-is : goal.returns-in_err-layers-clause-is
returns-in_err-layers-clause-is c = c.from_residual-in_err-layers.ensures ∙ bad-counts _ _ c.up_to.ensures c.if-not-up_to.false _ (counts c.args.words.now _ c.in_ok-get.ensures.lookup.0.2) c.in_err-layers.ensures.is

pub returns-clause-is : goal.returns-clause-is
returns-clause-is c =
    c.then_some.ensures ∙ all_there _ _ c.up_to.ensures c.if-not-up_to.false _ (counts c.args.words.now _ c.in_ok-get.ensures.lookup.0.2) _ c.in_ok-layers.ensures.is c.in-len1-up.len_at_least
