-- The coercion, by what the code tested.
-- Assumes nothing.
use mathlib.Core.Path.{◌≡◌}
use mathlib.Core.Bool.{false, ◌&&◌, and-false}
use mathlib.Core.List.{List}
use Prim.Native.Nat.{ℕ}
use lib.Dec.{eqb}
use borrow.Author.Tests.{ne_eqb}
use Rattle.type_layers.specs.Layers.{layers, outer, inner_words}
use Rattle.type_layers.proofs.Words.{inner-layers}
use Rattle.relation_equals.specs.Equals.{equals}
use Rattle.relation_coerces.specs.Coerces.{has_length}
use Rattle.relation_coerces.specs.Coercion.{coercion}
use Rattle.relation_coerces.specs.AsCoded.{of_kinds, same_in_endless_array, found}
use Rattle.relation_coerces.proofs.OneLook.{one-look}

pub coercion_looked : (a b : List ℕ) → coercion (layers a) (layers b)
    ≡ of_kinds (outer (layers a)) (outer (layers b)) (layers a) (layers (inner_words a)) (layers (inner_words b))
unfolding found
coercion_looked a b = rw (one-look (layers a) (layers b), inner-layers a, inner-layers b)

-- of a left kind, or into a right one, that the rules don't name
module _ (a b : List ℕ) (k l : ℕ) (e : k ≡ outer (layers a)) (f : l ≡ outer (layers b)) where
  pub from_other : has_length k ≡ false → (k ≡ 16 → ⊥) → (k ≡ 17 → ⊥) → (k ≡ 20 → ⊥) → coercion (layers a) (layers b) ≡ 0
  from_other h p q r = rw (coercion_looked a b, ← e, h, ne_eqb k 16 p, ne_eqb k 17 q, ne_eqb k 20 r)

  pub into_other : (l ≡ 16 → ⊥) → (l ≡ 17 → ⊥) → (l ≡ 23 → ⊥) → (l ≡ 24 → ⊥) → coercion (layers a) (layers b) ≡ 0
  into_other p q r s =
      rw (coercion_looked a b, ← f, ne_eqb l 16 p, ne_eqb l 17 q, ne_eqb l 23 r, ne_eqb l 24 s) (simp and-false)

pub endless_looked : (d c : List ℕ) → same_in_endless_array (layers d) (layers c)
    ≡ (eqb (outer (layers c)) 18 && equals (layers d) (layers (inner_words c)))
unfolding same_in_endless_array
endless_looked d c = rw (inner-layers c)

pub ruleset looked = (coercion_looked, from_other, into_other)
