-- No rule, but how the code finds a coercion, and how it asks sub-autoderefs: in one pass, from a type and another to what
-- both hold. x is the outer layer of the left type, d is what it holds.
use Rattle.std.specs.Prelude.{◌≡◌, Bool, true, false, cond, not, ◌&&◌, ◌||◌, List, [], ◌∷◌, ℕ, suc, ◌+◌, eqb}
use Rattle.type_numbers.specs.Kind as kind
use Rattle.type_numbers.specs.CoercionNumber as of-coercion
use Rattle.type_layers.specs.Layers.{Layer, outer, inside, is_reference}
use Rattle.relation_equals.specs.Equals.{same_layer, identical, plain_layer, equals}
use Rattle.relation_coerces.specs.Coerces.{has_length, into_slice, struct_into_view, address_into_slice_pointer}
use Rattle.relation_coerces.specs.declared.coercion.Coercion.{Coercion}
use Rattle.relation_coerces.specs.declared.coercion.Coercion.TheVariants as coded

-- The number of each of the code's answers.
abbrev pub of_coercion : Coercion → ℕ
of_coercion coded.None = of-coercion.none
of_coercion coded.AsValue = of-coercion.as_value
of_coercion coded.ByAddress = of-coercion.by_address

abbrev pub Numbers : Coercion → ℕ → Type 0
Numbers c n = n ≡ of_coercion c

-- Whether c, which the right type holds, is an EndlessArray whose element equals d, the left element.
unfoldable pub same_in_endless_array : List Layer → List Layer → Bool
same_in_endless_array d c = eqb (outer c) kind.endless_array && equals d (inside c)

-- The one comparison that the outer kinds k and l of two types leave open, and what comes of it: of the left type a, what
-- it holds, d, and what the right one holds, c.
abbrev pub of_kinds : ℕ → ℕ → List Layer → List Layer → List Layer → ℕ
of_kinds k l a d c =
    cond (into_slice k l) (cond (equals d c) of-coercion.as_value of-coercion.none)
    (cond (address_into_slice_pointer k l) (cond (equals d c) of-coercion.by_address of-coercion.none)
    (cond ((has_length k || eqb k kind.slice) && eqb l kind.view || eqb k kind.slice_pointer && eqb l kind.pointer)
    (cond (same_in_endless_array d c) of-coercion.as_value of-coercion.none)
    (cond (has_length k && eqb l kind.pointer) (cond (same_in_endless_array d c) of-coercion.by_address of-coercion.none)
    (cond (struct_into_view k l) (cond (identical a c) of-coercion.as_value of-coercion.none)
    of-coercion.none))))

unfoldable pub found : List Layer → List Layer → ℕ
found a b = of_kinds (outer a) (outer b) a (inside a) (inside b)

-- Whether a type of the outer kind j may equal one of the outer kind l: a View or a Pointer equals only its own kind.
abbrev pub may_equal : ℕ → ℕ → Bool
may_equal j l = eqb j l || not (is_reference j)

-- How many pairs of layers *equals* compares: up to the first two that differ.
unfoldable pub compared_by : List Layer → List Layer → ℕ
compared_by [] b = 0
compared_by (x ∷ a) [] = 0
compared_by (x ∷ a) (y ∷ b) = suc (cond (same_layer (plain_layer x) (plain_layer y)) (compared_by a b) 0)

-- What a pass answers, the pairs of types that it settles, and how many pairs of layers *equals* compares in it.
pub record Pass : Type 0 where
  pub yes : Bool
  pub pairs : List (List Layer × List Layer)
  pub compared : ℕ

-- A pass ends at a pair, or goes on from it.
abbrev pub ends : List Layer → List Layer → ℕ → Bool → Pass
ends a b n f = record { yes = f; pairs = (a, b) ∷ []; compared = n }

abbrev pub goes_on : List Layer → List Layer → ℕ → Pass → Pass
goes_on a b n p = record { yes = p.yes; pairs = (a, b) ∷ p.pairs; compared = n + p.compared }

-- "Settle each pair of remaining layers once, in whichever order suits." So the request; a is x ∷ d.
-- Where b is of the outer kind of a, what both hold is asked. Else whether d equals b, if it may, and then d and b.
unfoldable pub pass : List Layer → List Layer → Pass
pass [] b = record { yes = false; pairs = []; compared = 0 }
pass (x ∷ d) b =
    cond (is_reference x.kind)
    (cond (eqb (outer b) x.kind) (goes_on (x ∷ d) b 0 (pass d (inside b)))
    (cond (may_equal (outer d) (outer b))
    (cond (equals d b) (ends (x ∷ d) b (compared_by d b) true)
    (goes_on (x ∷ d) b (compared_by d b) (pass d b)))
    (goes_on (x ∷ d) b 0 (pass d b))))
    (ends (x ∷ d) b 0 false)
