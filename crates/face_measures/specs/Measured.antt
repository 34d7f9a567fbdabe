-- A size and two halves in the two words that C is handed, and what stands then behind the pointers that C lent.
use Rattle.std.specs.Prelude.{ℕ}
use Rattle.type_layers.specs.Answer as paper
use Rattle.type_layers.specs.Answer.{given, nothing, refused}
use Rattle.type_bounds.specs.declared.bound.Halves.{Halves}
use Rattle.write_answer.specs.declared.answer.Answer.{Answer}
use Rattle.write_answer.specs.Flat.{accepted, not_accepted}

-- "1, and the size in bytes is written; or 0, no size, and *size is kept."
unfoldable pub flat_found : paper.Answer ℕ → Answer
flat_found (given v) = accepted 1
flat_found nothing = accepted 0
flat_found (refused n p) = not_accepted n p

unfoldable pub found_after : paper.Answer ℕ → ℕ → ℕ
found_after (given v) before = v
found_after nothing before = before
found_after (refused n p) before = before

-- "The two halves are written; value is 0."
unfoldable pub flat_halves : paper.Answer Halves → Answer
flat_halves (given v) = accepted 0
flat_halves nothing = accepted 0
flat_halves (refused n p) = not_accepted n p

unfoldable pub low_after : paper.Answer Halves → ℕ → ℕ
low_after (given v) before = v.low
low_after nothing before = before
low_after (refused n p) before = before

unfoldable pub high_after : paper.Answer Halves → ℕ → ℕ
high_after (given v) before = v.high
high_after nothing before = before
high_after (refused n p) before = before
