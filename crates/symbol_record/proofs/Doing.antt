-- The words of a record that is filled.
-- Assumes nothing.
use mathlib.Core.Path.{◌≡◌}
use mathlib.Core.Bool.{Bool, false}
use mathlib.Core.List.{List}
use Prim.Native.Nat.{ℕ}
use Rattle.symbol_operations.specs.Act.{Act}
use Rattle.symbol_operations.specs.Operations.{offers_type}
use Rattle.symbol_record.specs.Deed.{filled_words}

-- poison writes none
pub words-stay : (a : Act) (offered ws : List ℕ) (t : Bool) → t ≡ offers_type a → t ≡ false → ws ≡ filled_words a offered ws
words-stay a offered ws t e h = rw (← e, h)
