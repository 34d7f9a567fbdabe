-- What one round decides, in the paper's terms.
use Rattle.std.specs.Prelude.{ℕ}

pub data Turn : Type 0 where
  -- "Else 8."
  Stuck : Turn
  -- "Any other Pointer: Autoderef; View: Autoview; nothing taken.": the step's kind; one layer in
  Auto : ℕ → Turn
  -- the asked Element, taken with this mark, so many layers in
  Element : ℕ → ℕ → Turn
  -- "Autodeslice by view, by pointer, then Element marked no.": the Autodeslice's mark; one layer in
  Desliced : ℕ → Turn
  -- "Member on Struct or Word: the table's type."
  Member : Turn
