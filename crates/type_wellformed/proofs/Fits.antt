-- Well formed, by the outer kind and by what is inside.
-- Assumes nothing.
use mathlib.Core.Path.{◌≡◌, refl, sym, ◌∙◌, subst}
use mathlib.Core.Bool.{Bool, true, false, not, ◌&&◌, ◌||◌}
use mathlib.Core.List.{List}
use Rattle.std.proofs.lemmas.Grind.{common_steps}
use native.Mathlib.Omega.{arith}
use Prim.Native.Nat.{ℕ, ◌≤◌, ◌<◌}
use lib.Dec.{eqb}
use lib.ListN.{length, get_or}
use borrow.Author.Tests.{eqb-true}
use Rattle.type_numbers.specs.Kind as kind
use Rattle.type_layers.specs.Layers.{layers, outer, inside, is_array, is_slice, is_reference, holds_inner}
use Rattle.type_layers.proofs.Words.{none, more, rest}
use Rattle.type_wellformed.specs.WellFormed.{inner, element, well_formed}

-- what holds of each kind that a test lists holds of the kind that passed the test
module _ (P : ℕ → Type 0) (k : ℕ) where
  pub one : (n : ℕ) → eqb k n ≡ true → P n → P k
  one n e p = subst P (sym (eqb-true k n e)) p

  pub or : (b : Bool) (n : ℕ) → (b || eqb k n) ≡ true → P n → (b ≡ true → P k) → P k
  or true n e p f = f refl
  or false n e p f = one n e p

  pub references : is_reference k ≡ true → P 23 → P 24 → P k
  references t a b = or _ 24 t b (λ t. one 23 t a)

-- whether a type is an Inner, a Type: by its outer kind, where what is inside is an Element (e), an Inner (i)
abbrev as_inner : ℕ → Bool → Bool → Bool
as_inner k e i = (not (holds_inner k) && not (eqb k kind.void)) || (is_array k && e) || (eqb k kind.pointer && i)

abbrev as_type : ℕ → Bool → Bool → Bool
as_type k e i = as_inner k e i || eqb k kind.void || (is_slice k && e) || (eqb k kind.view && i)

-- the kinds that `can_be_inner` refuses
abbrev pub no_inner : ℕ → Bool
no_inner k = eqb k kind.void || eqb k kind.slice || eqb k kind.slice_pointer || eqb k kind.view

module _ (k : ℕ) (e i : Bool) where
  array-inner : is_array k ≡ true → as_inner k e i ≡ e
  array-inner t = grind (arith, common_steps)

  no_inner_lem : no_inner k ≡ true → as_inner k e i ≡ false
  no_inner_lem t = grind (arith, common_steps)

  array-type : (is_array k || is_slice k) ≡ true → as_type k e i ≡ e
  array-type t = grind (arith, common_steps)

-- the laws over the words, by what the code tested
module _ (a : List ℕ) where
  pub formed-none : length a < 3 → false ≡ well_formed (layers a)
  unfolding well_formed inner outer
  formed-none h = rw (none a)

  pub inner-none : length a < 3 → false ≡ inner (layers a)
  unfolding inner
  inner-none h = rw (none a)

  module _ (h : 3 ≤ length a) where
    pub inner-is : inner (layers a) ≡ as_inner (get_or a 0 0) (element (layers (rest a))) (inner (layers (rest a)))
    unfolding inner element
    inner-is = rw (more a)

    pub type-is : well_formed (layers a) ≡ as_type (get_or a 0 0) (element (layers (rest a))) (inner (layers (rest a)))
    unfolding well_formed inner element outer inside
    type-is = rw (more a)

    module _ (f r : Bool) where
      pub type-array : (g : Bool) → f ≡ is_array (get_or a 0 0) → g ≡ is_slice (get_or a 0 0) → (f || g) ≡ true →
          r ≡ element (layers (rest a)) → r ≡ well_formed (layers a)
      type-array g p q t e = rw type-is (e ∙ sym (array-type (get_or a 0 0) _ _ (rw (p, q) at t)))

      pub inner-array : f ≡ is_array (get_or a 0 0) → f ≡ true → r ≡ element (layers (rest a)) → r ≡ inner (layers a)
      inner-array p t e = rw inner-is (e ∙ sym (array-inner (get_or a 0 0) _ _ (sym p ∙ t)))

    pub inner-not : no_inner (get_or a 0 0) ≡ true → false ≡ inner (layers a)
    inner-not t = rw inner-is (sym (no_inner_lem (get_or a 0 0) _ _ t))

pub ruleset types = (formed-none, type-is, type-array)

pub ruleset inners = (inner-none, inner-is, type-is, inner-array, inner-not)
