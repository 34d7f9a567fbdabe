use Prim.Native.Nat.{◌≤◌}
use native.Mathlib.Omega.{arith}
use lib.ListN.{length}
use Rattle.relation_declared.proofs.Decisions.{like_left, like_right, like-in, like-out}
use Rattle.relation_declared.proofs.like.+is_like.Goals.{in_default-via-then-a-lt3, in_default-via-else-a-lt3+then-this-lt3, in_default-via-in-len3-up-len3-up+else-array_meets_arraylike}
use Rattle.relation_declared.proofs.like.+is_like.Goals as goal

pub returns-in-len3-up-len3-up : goal.returns-in-len3-up-len3-up
returns-in-len3-up-len3-up t c =
    let h : 3 ≤ length c.args.a.now = grind arith in
    let k : 3 ≤ length c.args.b.now = grind arith in
    search like-in

pub returns-in_default : goal.returns-in_default
returns-in_default t c =
    elim c.in_default.branch [
      | in_default-via-then-a-lt3 w ↦ grind (arith, like_left)
      | in_default-via-else-a-lt3+then-this-lt3 w ↦ grind (arith, like_right)
      | in_default-via-in-len3-up-len3-up+else-array_meets_arraylike w ↦ grind (arith, like-out)
    ]
