-- No rule, but what contracts of the code need: what the functions inside ask of the words that they are handed.
use Rattle.std.specs.Prelude.{◌≡◌, List, ℕ, ◌+◌, ◌%◌, ◌≤◌, length}

-- Room in other words for those of a type that starts at a place.
pub record Room (ws : List ℕ) (place : ℕ) (made : List ℕ) : Type 0 where
  pub whole : length ws % 3 ≡ 0
  pub room : length ws ≤ length made
  -- so that counting the place cannot overflow
  pub near : place + length ws ≤ 64
