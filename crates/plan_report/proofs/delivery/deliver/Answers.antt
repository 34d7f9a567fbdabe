use Prim.Native.Nat.{◌+◌, ◌*◌}
use native.Mathlib.Omega.{arith}
use lib.ListN.{length}
use Rattle.plan_report.proofs.Delivering.{too_wide, too_short, short_for_all, second_fits, front, wrote}
use Rattle.plan_report.proofs.delivery.deliver.Goals as goal

pub returns-then-words-gt-TYPE_WORDS : goal.returns-then-words-gt-TYPE_WORDS
returns-then-words-gt-TYPE_WORDS c =
    let d = c.args.draft.now in
    too_wide d.steps.now d.taken d.ending d.body.now _ _ c.requires.0 c.requires.1 c.if-words-gt-TYPE_WORDS.true _ c.into.ensures

pub returns-then-steps-planned : goal.returns-then-steps-planned
returns-then-steps-planned c =
    let d = c.args.draft.now in
    let short = short_for_all (length c.args.steps.now) (length d.steps.now) (length c.args.ty.now) _ (3 * d.ending.lead + length d.body.now) c.if-steps-planned.true in
    too_short d.steps.now d.taken d.ending d.body.now _ _ c.requires.0 c.requires.1 c.if-words-gt-TYPE_WORDS.false (short (omega arith)) _ c.into-then-steps-planned.ensures

pub returns : goal.returns
returns c =
    let d = c.args.draft.now in
    let room = second_fits _ _ _ _ c.if-steps-planned.false in
    let pointers = front _ d.ending.lead (rw c.plain-pointers.ensures at c.as_flattened.ensures.value) (omega arith) in
    wrote d.steps.now d.taken d.ending d.body.now c.args.steps.now c.args.ty.now c.requires.0 c.requires.1 c.if-words-gt-TYPE_WORDS.false c.if-steps-planned.false
    _ _ _ _ room pointers c.write_words.ensures c.write_words-2.ensures c.write_words-3.ensures
