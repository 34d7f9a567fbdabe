-- No rule, but what contracts of the code need: which line an outcome of the code is by, and what it gives.
use Rattle.std.specs.Prelude.{◌≡◌, false, List, ℕ, Result, Ok, Err}
use Rattle.type_numbers.specs.Refusal.{number_of}
use Rattle.type_numbers.specs.declared.refusal.Refusal.{Refusal}
use Rattle.type_layers.specs.Layers.{Layer}
use Rattle.type_layers.specs.Answer.{Answer, given, refused}
use Rattle.type_size_and_depth.specs.Depth.{pointer_depth}
use Rattle.plan_settling.specs.Line as line
use Rattle.plan_settling.specs.Line.{Line}
use Rattle.plan_settling.specs.declared.settling.Settling.{Settling}
use Rattle.plan_settling.specs.declared.settling.Settling.TheVariants as settling
use Rattle.plan_settling.specs.Settling.{Settled, by_address, dereferenced, line_of, settle, settle_by, settle_otherwise}

-- What each outcome of the code is: the line that it is by, and what it gives of the current type c, the target t and the
-- depth n.
abbrev pub line_by : Result Settling Refusal → Line
line_by (Ok settling.Identical) = line.i
line_by (Ok settling.Viewed) = line.ii
line_by (Ok settling.Coerced) = line.iii
line_by (Ok settling.SlicePointer) = line.iv
line_by (Ok settling.PointedTo) = line.v
line_by (Ok settling.AddressCoerced) = line.vi
line_by (Ok settling.Addressed) = line.vii
line_by (Ok settling.Dereferenced) = line.vii
line_by (Err r) = line.vii

abbrev pub of_settling : Result Settling Refusal → List Layer → List Layer → ℕ → Answer Settled
of_settling (Ok settling.Identical) c t n = settle_by line.i c t n
of_settling (Ok settling.Viewed) c t n = settle_by line.ii c t n
of_settling (Ok settling.Coerced) c t n = settle_by line.iii c t n
of_settling (Ok settling.SlicePointer) c t n = settle_by line.iv c t n
of_settling (Ok settling.PointedTo) c t n = settle_by line.v c t n
of_settling (Ok settling.AddressCoerced) c t n = settle_by line.vi c t n
of_settling (Ok settling.Addressed) c t n = given (by_address c false)
of_settling (Ok settling.Dereferenced) c t n = given (dereferenced c n (pointer_depth c))
of_settling (Err r) c t n = refused (number_of r) 0

-- An outcome is the settling of c to t at the depth n: by the line that applies, and with what is given.
abbrev pub Settles : Result Settling Refusal → List Layer → List Layer → ℕ → Type 0
Settles r c t n = (line_by r ≡ line_of c t n) × (of_settling r c t n ≡ settle c t n)

-- An outcome is the last line's, whatever the target is.
abbrev pub Otherwise : Result Settling Refusal → List Layer → ℕ → Type 0
Otherwise r c n = (line_by r ≡ line.vii) × ((t : List Layer) → of_settling r c t n ≡ settle_otherwise c n (pointer_depth c))
