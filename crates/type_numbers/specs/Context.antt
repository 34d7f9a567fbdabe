-- "Contexts: Const 0, Parameter 1, Returned 2, Member 3."
use Rattle.std.specs.Prelude.{ℕ, ◌≡◌, ◌<◌, Result, MatchResult}
use Rattle.type_numbers.specs.declared.refusal.Refusal.{Refusal}
use Rattle.type_numbers.specs.declared.refusal.Refusal.TheVariants.{BadRequest}
use Rattle.type_numbers.specs.declared.context.Context.{Context}
use Rattle.type_numbers.specs.declared.context.Context.TheVariants as context

abbrev pub const : ℕ
const = 0

abbrev pub parameter : ℕ
parameter = 1

abbrev pub returned : ℕ
returned = 2

abbrev pub member : ℕ
member = 3

-- The number of each.
abbrev pub number_of : Context → ℕ
number_of context.Const = const
number_of context.Parameter = parameter
number_of context.Returned = returned
number_of context.Member = member

-- A number is read as the context that has it; one that none has is refused.
abbrev pub Reads : ℕ → Result Context Refusal → Type 0
Reads n r = MatchResult r (λ c. number_of c ≡ n) (λ e. (e ≡ BadRequest) × (member < n))
