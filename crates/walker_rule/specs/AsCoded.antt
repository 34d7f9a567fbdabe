-- No rule, but what contracts of the code need: the member that a step asks for, in a table in columns.
use Rattle.std.specs.Prelude.{cond, List, [], ℕ, eqb}
use Rattle.symbol_members.specs.AsCoded.{member_in}
use Rattle.type_numbers.specs.StepKind as of-step

-- The words of the member's type where the step is a Member; else none.
unfoldable pub asked_in : List ℕ → ℕ → List ℕ → ℕ → ℕ → List ℕ
asked_in ws n store kind id = cond (eqb kind of-step.member) (member_in ws n store id) []
