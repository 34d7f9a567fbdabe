-- What the checks know of a type's words by their count.
-- Assumes nothing.
use mathlib.Core.Path.{◌≡◌, refl}
use mathlib.Core.Bool.{Bool, true, false, not, ◌||◌, true≢false}
use mathlib.Core.List.{List}
use Prim.Native.Nat.{ℕ, ◌%◌}
use lib.Dec.{eqb, ltb}
use lib.ListN.{length}
use borrow.Author.Tests.{ltb-false, eqb-true}
use Rattle.type_layers.specs.AsCoded.{Whole}
use Rattle.type_checks.specs.Check.{bad_count}

-- word counts that pass check 1
pub counted : (a b c : Bool) → (a || b || not c) ≡ false → (b ≡ false) × (c ≡ true)
counted false false true e = (refl, refl)
counted false false false e = absurd (true≢false e)
counted false true c e = absurd (true≢false e)
counted true b c e = absurd (true≢false e)

pub start : (ws : List ℕ) → bad_count (length ws) ≡ false → Whole ws
start ws e =
    let c = counted (eqb (length ws) 0) (ltb 48 (length ws)) (eqb (length ws % 3) 0) e in
    record { whole = eqb-true (length ws % 3) 0 c.1; few = ltb-false 48 (length ws) c.0 }
