-- The third demand: what is asked of each plan that is given. It is stated of the plan alone: of its steps, its count, its
-- reported type and its flag, and of where the walker goes. Of the planner it names which line of the settling applies.
use Rattle.std.specs.Prelude.{◌≡◌, true, false, cond, ◌⊎◌, List, [], ◌∷◌, ◌++◌, map, ℕ, ◌+◌, ◌≤◌, eqb, leb, length, take, drop}
use Rattle.type_numbers.specs.Kind as kind
use Rattle.type_layers.specs.Layers.{Layer, outer}
use Rattle.type_parts.specs.Parts.{references}
use Rattle.type_numbers.specs.StepKind as of-step
use Rattle.plan_steps.specs.Steps.{Step, step, good_steps}
use Rattle.plan_settling.specs.Line as line
use Rattle.plan_settling.specs.Settling.{line_of}
use Rattle.symbol_members.specs.Member.{Stored}
use Rattle.walker_rule.specs.Walker.{at, walker, arrives}
use Rattle.plan_report.specs.Plan.{Plan}

-- "an element's endless mark aside"
abbrev pub unmarked : Step → Step
unmarked s = cond (eqb s.kind of-step.element) (step of-step.element s.handle 0 0) s

-- "the element and member steps"
unfoldable pub asked : List Step → List Step
asked [] = []
asked (s ∷ ss) = cond (leb s.kind of-step.member) (unmarked s ∷ asked ss) (asked ss)

-- How many rounds added these steps: a round adds one step that is no Autodeslice.
unfoldable pub rounds : List Step → ℕ
rounds [] = 0
rounds (s ∷ ss) = cond (eqb s.kind of-step.autodeslice) (rounds ss) (rounds ss + 1)

-- "One exception: at address depth 0, when the walk ends on a view and only the last settling rule applies,": the walker
-- takes the steps of the rounds to c.
pub record Exception (stored : ℕ → Stored) (known target : List Layer) (depth : ℕ) (of_rounds : List Step) : Type 0 where
  pub c : List Layer
  pub ends : walker stored of_rounds known ≡ at c
  pub level : depth ≡ 0
  pub view : outer c ≡ kind.view
  pub last : line_of c target depth ≡ line.vii

-- "the reported type is that view fully dereferenced.": no step is added for it, and no address.
pub record Hidden (stored : ℕ → Stored) (known target : List Layer) (depth : ℕ) (plan : Plan) : Type 0 where
  pub holds : Exception stored known target depth plan.steps
  pub type : plan.type ≡ drop (references holds.c) holds.c
  pub plain : plan.address ≡ false

-- "Let the known, target and member types be well formed." The planner refuses a known or target type that is not, and a
-- member's when a round meets it.
pub record Demand (stored : ℕ → Stored) (known : List Layer) (q : List Step) (target : List Layer) (depth limit : ℕ) (plan : Plan) : Type 0 where
  -- "In each plan given, the element and member steps are, an element's endless mark aside, the asked ones in order from the
  -- first,": as many of them as the plan says that it took.
  pub order : asked plan.steps ≡ map unmarked (take plan.taken q)
  pub few : plan.taken ≤ length q
  -- The steps are those of the rounds, no more rounds than allowed, and further ones that nobody asked for.
  pub of_rounds : List Step
  pub further : List Step
  pub parts : plan.steps ≡ of_rounds ++ further
  pub unasked : asked further ≡ []
  pub within : rounds of_rounds ≤ limit
  -- "and all of them unless the round limit stopped the walk."
  pub all : (plan.taken ≡ length q) ⊎ (rounds of_rounds ≡ limit)
  -- Each step is one: its marks are marks, and its unused words are 0.
  pub good : good_steps plan.steps ≡ true
  -- "A plain walker, knowing only what one step does to a type, takes the plan's steps from the known type, then the address
  -- if flagged, and arrives at exactly the reported type."
  pub there : (arrives stored plan.steps plan.address known ≡ at plan.type) ⊎ Hidden stored known target depth plan
  -- Where the exception applies, the plan reports what it says.
  pub except : Exception stored known target depth of_rounds → Hidden stored known target depth plan
