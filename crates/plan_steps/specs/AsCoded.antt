-- No rule, but what contracts of the code need: the code's step in the rule's terms, and a step written into a run of words.
use Rattle.std.specs.Prelude.{◌≡◌, cond, List, [], ◌∷◌, ◌++◌, ℕ, ◌+◌, leb, length, take, drop, get_or}
use Rattle.plan_steps.specs.Steps.{Step, step, step_words}
use Rattle.plan_steps.specs.declared.step.Step as code

-- The step that the code's four words are.
abbrev pub of_step : code.Step → Step
of_step s = step s.kind s.handle s.mark s.number

-- A step's words over those from a place on; the run itself where they do not fit.
unfoldable pub put_step : Step → ℕ → List ℕ → List ℕ
put_step s at b = cond (leb (at + 4) (length b)) (take at b ++ step_words (s ∷ []) ++ drop (at + 4) b) b

-- The first step of a run of words; zeros where they are not there.
abbrev pub step_at : List ℕ → Step
step_at q = step (get_or q 0 0) (get_or q 1 0) (get_or q 2 0) (get_or q 3 0)

-- Four words spell a step.
abbrev pub Spells : List ℕ → code.Step → Type 0
Spells ws s = of_step s ≡ step_at ws

abbrev pub IsSpelled : code.Step → List ℕ → Type 0
IsSpelled s ws = ws ≡ step_words (of_step s ∷ [])
