-- How a step is written, and which runs of words are runs of steps.
use Rattle.std.specs.Prelude.{Bool, true, cond, ◌&&◌, ◌||◌, List, [], ◌∷◌, ℕ, ◌/◌, ◌%◌, eqb, leb, length}
use Rattle.type_numbers.specs.Limit as limit
use Rattle.type_numbers.specs.Mark as of-mark
use Rattle.type_numbers.specs.Refusal as refusal
use Rattle.type_layers.specs.Answer.{Answer, given, refused}
use Rattle.type_numbers.specs.StepKind as of-step

-- "A step is four words: kind, handle, mark, number."
pub record Step : Type 0 where
  pub kind : ℕ
  pub handle : ℕ
  pub mark : ℕ
  pub number : ℕ

abbrev pub step : ℕ → ℕ → ℕ → ℕ → Step
step k h m n = record { kind = k; handle = h; mark = m; number = n }

unfoldable pub steps : List ℕ → List Step
steps (k ∷ h ∷ m ∷ n ∷ ws) = step k h m n ∷ steps ws
steps (k ∷ h ∷ m ∷ []) = []
steps (k ∷ h ∷ []) = []
steps (k ∷ []) = []
steps [] = []

unfoldable pub step_words : List Step → List ℕ
step_words [] = []
step_words (s ∷ ss) = s.kind ∷ s.handle ∷ s.mark ∷ s.number ∷ step_words ss

-- "handles u32"
abbrev pub is_handle : ℕ → Bool
is_handle h = leb h limit.name

-- "Element 0 (argument; endless unknown 0, no 1, yes 2), Member 1 (id; offset present 0/1; offset, 0 when absent),
-- Autodeslice 2 (mark 0 by view, 1 by pointer, 2 length), Autoderef 3, Autoview 4; unused words 0"
unfoldable pub good_step : Step → Bool
good_step s =
    cond (eqb s.kind of-step.element) (is_handle s.handle && leb s.mark of-mark.yes && eqb s.number 0)
    (cond (eqb s.kind of-step.member) (is_handle s.handle && leb s.mark of-mark.offset && (eqb s.mark of-mark.offset || eqb s.number 0))
    (cond (eqb s.kind of-step.autodeslice) (eqb s.handle 0 && leb s.mark of-mark.by_length && eqb s.number 0)
    (leb s.kind of-step.autoview && eqb s.handle 0 && eqb s.mark 0 && eqb s.number 0)))

unfoldable pub good_steps : List Step → Bool
good_steps [] = true
good_steps (s ∷ ss) = good_step s && good_steps ss

-- "5 bad ... step, step count": of at most so many steps, how many they are.
unfoldable pub steps_answer : ℕ → List ℕ → Answer ℕ
steps_answer most ws =
    cond (eqb (length ws % 4) 0 && leb (length ws / 4) most && good_steps (steps ws)) (given (length ws / 4)) (refused refusal.bad_request 0)
