use borrow.Author.Rules.{rules}
use Rattle.sheet_contents.proofs.Places.{no-type, none-there, counted, counted-to, good-before, small-fits, end_fits, in-the-sheet, type-is}
use Rattle.sheet_contents.proofs.bodies.type_at.Goals as goal
use Rattle.sheet_contents.proofs.bodies.type_at.Goals.{in_default-via-in-Some+else-k-n, in_default-via-in_default}

pub returns-in_default : goal.returns-in_default
returns-in_default c = elim c.in_default.branch [
  | in_default-via-in-Some+else-k-n w ↦ no-type _ _ _ w.in-Some.ensures.is w.if-k-n.false
  | in_default-via-in_default w ↦ none-there _ _ w.in_default.ensures.is
]

pub slice_bounds-total-end : goal.slice_bounds-total-end
slice_bounds-total-end c = counted-to _ _ _ c.in-Some.ensures.is c.if-k-n.true

pub unwrap-before-requires : goal.unwrap-before-requires
unwrap-before-requires c = rw (c.total.ensures.is, good-before _ _ _ c.in-Some.ensures.is c.if-k-n.true) (search rules)

pub bounds-words-k : goal.bounds-words-k
bounds-words-k c = counted _ _ _ c.in-Some.ensures.is c.if-k-n.true

pub overflow_mul-end : goal.overflow_mul-end
overflow_mul-end c = record { fits = small-fits _ _ _ c.in-Some.ensures.is c.if-k-n.true }

pub overflow_add-end-in-Some : goal.overflow_add-end-in-Some
overflow_add-end-in-Some c = record { fits = end_fits _ _ _ c.in-Some.ensures.is c.if-k-n.true _ _ c.total.ensures.is c.unwrap-before.ensures c.in-Some.ensures.few }

pub slice_bounds-result-end : goal.slice_bounds-result-end
slice_bounds-result-end c = in-the-sheet _ _ _ c.in-Some.ensures.is c.if-k-n.true _ _ c.total.ensures.is c.unwrap-before.ensures

pub returns-in-Some : goal.returns-in-Some
returns-in-Some c = type-is _ _ _ c.in-Some.ensures.is c.if-k-n.true _ _ c.total.ensures.is c.unwrap-before.ensures
