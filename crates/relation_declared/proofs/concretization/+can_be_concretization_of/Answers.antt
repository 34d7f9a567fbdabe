use Prim.Native.Nat.{◌≤◌}
use native.Mathlib.Omega.{arith}
use lib.ListN.{length}
use Rattle.relation_declared.proofs.Decisions.{concrete_left, concrete_right, concrete-in, concrete-like, concrete-pointer, concrete-resolved, concrete-same}
use Rattle.relation_declared.proofs.concretization.+can_be_concretization_of.Goals.{in_default-via-then-a-lt3, in_default-via-else-a-lt3+then-this-lt3}
use Rattle.relation_declared.proofs.concretization.+can_be_concretization_of.Goals as goal

pub returns-in_default : goal.returns-in_default
returns-in_default t c =
    elim c.in_default.branch [
      | in_default-via-then-a-lt3 w ↦ grind (arith, concrete_left)
      | in_default-via-else-a-lt3+then-this-lt3 w ↦ grind (arith, concrete_right)
    ]

pub returns-then-same_holder : goal.returns-then-same_holder
returns-then-same_holder t c = grind (arith, concrete-in)

pub returns-then-meets_arraylike : goal.returns-then-meets_arraylike
returns-then-meets_arraylike t c = grind (arith, concrete-like)

pub returns-then-slice_pointer_meets_pointer : goal.returns-then-slice_pointer_meets_pointer
returns-then-slice_pointer_meets_pointer t c =
    let h : 3 ≤ length c.args.a.now = grind arith in
    let k : 3 ≤ length c.args.b.now = grind arith in
    search concrete-pointer

pub returns-then-resolves : goal.returns-then-resolves
returns-then-resolves t c = grind (arith, concrete-resolved)

pub returns-else-resolves : goal.returns-else-resolves
returns-else-resolves t c = grind (arith, concrete-same)
