-- The grid gives the earlier answers, for each role and kind.
-- Assumes nothing.
use mathlib.Core.Path.{◌≡◌, refl, sym, ◌∙◌}
use mathlib.Core.Bool.{Bool, true, false, cond, not, ◌&&◌, and-true, true≢false, false≢true}
use mathlib.Core.List.{List}
use Prim.Native.Nat.{ℕ, zero, suc, ◌+◌, ◌≤◌, ◌<◌}
use native.Mathlib.Nat.{add-zero, zero-add, add-suc, suc-add, le_of_suc-le-suc, not-suc-le-zero}
use native.Mathlib.Omega.{arith}
use lib.ListN.{get_or}
use Rattle.type_numbers.specs.Kind as kind
use Rattle.type_layers.specs.Layers.{Layer, outer}
use Rattle.type_layers.specs.Answer.{is_given}
use Rattle.type_size_and_depth.specs.Known.{known_size}
use Rattle.type_wellformed.specs.WellFormed.{well_formed}
use Rattle.type_roles.specs.Roles.{refuses, needs, can_be}
use Rattle.type_roles.specs.Grid.{refused, allowed, allowed_when_well_formed, says, entry_of, entries, row_of, grid, size_test}
use Rattle.type_roles.specs.declared.role.Role.{Role}
use Rattle.type_roles.specs.declared.role.Role.TheVariants as role

-- the row of a role, from 0
abbrev pub row_number : Role → ℕ
row_number role.Sized = 0
row_number role.StructMember = 1
row_number role.WordMember = 2
row_number role.Constant = 3
row_number role.Variable = 4
row_number role.Parameter = 5
row_number role.Returned = 6

row_in : (p : Role) (ds : List ℕ) → get_or grid (row_number p) ds ≡ row_of p
row_in role.Sized ds = refl
row_in role.StructMember ds = refl
row_in role.WordMember ds = refl
row_in role.Constant ds = refl
row_in role.Variable ds = refl
row_in role.Parameter ds = refl
row_in role.Returned ds = refl

in_row : (p : Role) (i n k d : ℕ) → k < n → get_or (entries p i n) k d ≡ entry_of p (i + k)
in_row p i zero k d h = absurd (not-suc-le-zero h)
in_row p i (suc n) zero d h = rw (add-zero i)
in_row p i (suc n) (suc k) d h = in_row p (suc i) n k d (le_of_suc-le-suc h) ∙ (rw (suc-add i k, add-suc i k))

-- in the row of a role, under a kind, the grid has the rule's entry
pub in-grid : (p : Role) (k d : ℕ) (ds : List ℕ) → k < kind.none → get_or (get_or grid (row_number p) ds) k d ≡ entry_of p k
in-grid p k d ds h = rw (row_in p ds) (in_row p 0 kind.none k d h ∙ (rw (zero-add k)))

-- what stands under a kind that a role does not refuse
abbrev otherwise : Role → ℕ
otherwise p = cond (needs p false true) allowed allowed_when_well_formed

by-role : (p : Role) (formed known : Bool) → (says (otherwise p) formed && size_test p known) ≡ needs p formed known
by-role role.Sized w n = refl
by-role role.StructMember w n = and-true w
by-role role.WordMember w n = refl
by-role role.Constant w n = and-true w
by-role role.Variable w n = and-true w
by-role role.Parameter w n = and-true w
by-role role.Returned w n = and-true w

-- what an entry and the size test answer, of any type, is the earlier answer
pub earlier-answer : (p : Role) (k : ℕ) (formed known : Bool) →
    (says (entry_of p k) formed && size_test p known) ≡ (not (refuses p k) && needs p formed known)
earlier-answer p k w n = by-refused (refuses p k)
  where
    by-refused : (b : Bool) → (says (cond b refused (otherwise p)) w && size_test p n) ≡ (not b && needs p w n)
    by-refused true = refl
    by-refused false = by-role p w n

-- so a type can be what its entry and the size test say
pub by-grid : (p : Role) (a : List Layer) → (says (entry_of p (outer a)) (well_formed a) && size_test p (is_given (known_size a))) ≡ can_be p a
unfolding can_be
by-grid p a = earlier-answer p (outer a) (well_formed a) (is_given (known_size a))

-- what holds of the three values holds of each
each : (P : ℕ → Type 0) → P refused → P allowed → P allowed_when_well_formed → (e : ℕ) → e ≤ allowed_when_well_formed → P e
each P a b c zero h = a
each P a b c (suc zero) h = b
each P a b c (suc (suc zero)) h = c
each P a b c (suc (suc (suc e))) h = absurd (omega (arith, h))

-- two values that say the same are the same
abbrev Told : ℕ → ℕ → Type 0
Told e g = ((w : Bool) → says e w ≡ says g w) → e ≡ g

told-apart : (e g : ℕ) → e ≤ allowed_when_well_formed → g ≤ allowed_when_well_formed → Told e g
told-apart e g h i =
    each (λ (x : ℕ). Told x g)
    (each (Told refused) (λ f. refl) (λ f. absurd (false≢true (f true))) (λ f. absurd (false≢true (f true))) g i)
    (each (Told allowed) (λ f. absurd (true≢false (f true))) (λ f. refl) (λ f. absurd (true≢false (f false))) g i)
    (each (Told allowed_when_well_formed) (λ f. absurd (true≢false (f true))) (λ f. absurd (false≢true (f false))) (λ f. refl) g i)
    e
    h

-- no other of the three values gives the earlier answer in all cases: well formed or not, with a known size or without.
-- Of the types of one kind it need not be so: where none is ill formed, allowed and allowed when well formed answer alike.
pub only-value : (p : Role) (k e : ℕ) → e ≤ allowed_when_well_formed →
    ((formed known : Bool) → (says e formed && size_test p known) ≡ (not (refuses p k) && needs p formed known)) → e ≡ entry_of p k
only-value p k e h f =
    told-apart e (entry_of p k) h (bounded (refuses p k))
    (λ w. sym (sized e w) ∙ (f w true ∙ (sym (earlier-answer p k w true) ∙ sized (entry_of p k) w)))
  where
    by-test : (q : Role) → size_test q true ≡ true
    by-test role.Sized = refl
    by-test role.StructMember = refl
    by-test role.WordMember = refl
    by-test role.Constant = refl
    by-test role.Variable = refl
    by-test role.Parameter = refl
    by-test role.Returned = refl

    sized : (g : ℕ) (w : Bool) → (says g w && size_test p true) ≡ says g w
    sized g w = rw (by-test p) (and-true (says g w))

    of_two : (b : Bool) → cond b allowed allowed_when_well_formed ≤ allowed_when_well_formed
    of_two true = omega arith
    of_two false = omega arith

    bounded : (b : Bool) → cond b refused (otherwise p) ≤ allowed_when_well_formed
    bounded true = omega arith
    bounded false = of_two (needs p false true)
