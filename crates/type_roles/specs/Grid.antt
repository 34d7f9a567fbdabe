-- "Roles as a table."
use Rattle.std.specs.Prelude.{Bool, true, false, cond, List, [], ◌∷◌, ℕ, zero, suc, eqb}
use Rattle.type_numbers.specs.Kind as kind
use Rattle.type_roles.specs.Roles.{refuses, needs}
use Rattle.type_roles.specs.declared.role.Role.{Role}
use Rattle.type_roles.specs.declared.role.Role.TheVariants as role

-- The three values of an entry: "saying refused, allowed, or allowed when well formed".
abbrev pub refused : ℕ
refused = 0

abbrev pub allowed : ℕ
allowed = 1

abbrev pub allowed_when_well_formed : ℕ
allowed_when_well_formed = 2

-- What an entry says of a type that is well formed or not.
abbrev pub says : ℕ → Bool → Bool
says e formed = cond (eqb e refused) false (cond (eqb e allowed) true formed)

-- What stands in a role's row under a kind. Where the role does not refuse the kind, it depends on whether the role takes
-- a type that is ill formed.
abbrev pub entry_of : Role → ℕ → ℕ
entry_of r k = cond (refuses r k) refused (cond (needs r false true) allowed allowed_when_well_formed)

-- "Hold them as seven rows of twenty-five entries, an array of arrays": n entries of a row, from kind k on; a row, which has
-- as many as there are kinds, 25; the grid.
abbrev pub entries : Role → ℕ → ℕ → List ℕ
entries r k zero = []
entries r k (suc n) = entry_of r k ∷ entries r (suc k) n

abbrev pub row_of : Role → List ℕ
row_of r = entries r 0 kind.none

abbrev pub grid : List (List ℕ)
grid =
    row_of role.Sized
    ∷ row_of role.StructMember
    ∷ row_of role.WordMember
    ∷ row_of role.Constant
    ∷ row_of role.Variable
    ∷ row_of role.Parameter
    ∷ row_of role.Returned
    ∷ []

-- "word member's extra size test stays apart": what a role needs besides, of a type that is well formed.
abbrev pub size_test : Role → Bool → Bool
size_test r known = needs r true known
