-- No rule, but what contracts of the code need: bytes put into a lent text.
use Rattle.std.specs.Prelude.{◌≡◌, Bool, cond, List, ◌++◌, ℕ, ◌+◌, leb, length, take, drop}
use Rattle.sheet_text.specs.declared.text.Text.{Text}

-- Bytes put from a place on; the rest is kept.
unfoldable pub put_at : ℕ → List ℕ → List ℕ → List ℕ
put_at at t l = take at l ++ t ++ drop (at + length t) l

-- The same where they fit, and nothing where they do not; and the place behind them.
abbrev pub fits : ℕ → List ℕ → List ℕ → Bool
fits at t l = leb (at + length t) (length l)

unfoldable pub put_in : ℕ → List ℕ → List ℕ → List ℕ
put_in at t l = cond (fits at t l) (put_at at t l) l

unfoldable pub behind : ℕ → List ℕ → List ℕ → ℕ
behind at t l = cond (fits at t l) (at + length t) at

-- A run was put at the place of a text, which is behind it then; nothing where it does not fit.
pub record PutsIfRoom (t : List ℕ) (old new : Text) : Type 0 where
  pub same : new.out.ghost_name ≡ old.out.ghost_name
  pub next : new.at ≡ behind old.at t old.out.now
  pub text : new.out.now ≡ put_in old.at t old.out.now

-- The same of a run that fits.
pub record Puts (t : List ℕ) (old new : Text) : Type 0 where
  pub same : new.out.ghost_name ≡ old.out.ghost_name
  pub next : new.at ≡ old.at + length t
  pub text : new.out.now ≡ put_at old.at t old.out.now
