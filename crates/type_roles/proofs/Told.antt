-- A role, by what the code found.
-- Assumes nothing.
use mathlib.Core.Path.{◌≡◌, sym, ◌∙◌}
use mathlib.Core.Bool.{Bool, true, false}
use mathlib.Core.List.{List}
use Prim.Native.Nat.{ℕ, ◌<◌}
use lib.ListN.{get_or, get_or-map}
use Rattle.std.specs.Prelude.{map, Result, Ok}
use Rattle.type_layers.specs.declared.answers.Refused.{Refused}
use Rattle.type_numbers.specs.Kind as kind
use Rattle.type_layers.specs.Layers.{Layer, layers, outer}
use Rattle.type_layers.specs.Answer.{of_result, is_given}
use Rattle.type_checks.specs.Check.{check_of}
use Rattle.type_checks.proofs.Accepted.{accepted-kind}
use Rattle.type_size_and_depth.specs.Known.{known_size}
use Rattle.type_wellformed.specs.WellFormed.{well_formed}
use Rattle.type_roles.specs.Roles.{can_be}
use Rattle.type_roles.specs.Grid.{says, entry_of, grid, size_test}
use Rattle.type_roles.specs.AsCoded.{value_of}
use Rattle.type_roles.specs.declared.grid.Entry.{Entry}
use Rattle.type_roles.specs.declared.role.Role.{Role}
use Rattle.type_roles.proofs.Theorems.{row_number, in-grid, by-grid}

-- what is found in row i of a grid, where that is the row of the role
pub looked-up : (p q : Role) (rows : List (List ℕ)) (ds : List ℕ) (i k r d : ℕ) → rows ≡ grid → p ≡ q → i ≡ row_number q →
    k < kind.none → r ≡ get_or (get_or rows i ds) k d → r ≡ entry_of p k
looked-up p q rows ds i k r d e f g h j = rw (j, e, f, g) (in-grid q k d ds h)

-- the same of the code's grid, by the values of its entries
pub looked_up : (p q : Role) (rows : List (List Entry)) (ds : List Entry) (i k r d : ℕ) → map (map value_of) rows ≡ grid → p ≡ q → i ≡ row_number q →
    k < kind.none → r ≡ get_or (map value_of (get_or rows i ds)) k d → r ≡ entry_of p k
looked_up p q rows ds i k r d e f g h j =
    let row : get_or (map (map value_of) rows) i (map value_of ds) ≡ map value_of (get_or rows i ds) = get_or-map (map value_of) rows i ds in
    looked-up p q (map (map value_of) rows) (map value_of ds) i k r d e f g h (rw (← row) at j)

-- the outer kind of words that pass has an entry in each row
pub has_entry : (ws : List ℕ) (x : Result ℕ Refused) (n k : ℕ) → of_result x ≡ check_of ws → x ≡ Ok n → k ≡ outer (layers ws) → k < kind.none
has_entry ws x n k e h i = rw i (accepted-kind ws n (sym e ∙ (rw h)))

-- a role, by what its entry says of the type, and by the size test
module _ (p : Role) (a : List Layer) (k e : ℕ) (f : Bool) (g : k ≡ outer a) (h : e ≡ entry_of p k) (i : f ≡ says e (well_formed a)) where
  pub told_no : f ≡ false → f ≡ can_be p a
  told_no j = j ∙ (rw (← by-grid p a, ← g, ← h, ← i, j))

  pub told_yes : f ≡ true → (t : Bool) → t ≡ size_test p (is_given (known_size a)) → t ≡ can_be p a
  told_yes j t l = l ∙ (rw (← by-grid p a, ← g, ← h, ← i, j))

pub ruleset told = (has_entry, told_no, told_yes)
