-- "A result is written from the output's first word; the rest is kept."
use Rattle.std.specs.Prelude.{cond, List, ◌++◌, ℕ, ltb, length, drop}

-- The words over the front of a run; the run itself where they do not fit.
unfoldable pub written : List ℕ → List ℕ → List ℕ
written ws b = cond (ltb (length b) (length ws)) b (ws ++ drop (length ws) b)
