-- What follows from the definitions of identical and equals alone.
-- Assumes nothing.
use mathlib.Core.Path.{◌≡◌, refl}
use mathlib.Core.Bool.{true, ◌&&◌, false≢true}
use mathlib.Core.List.{List, [], ◌∷◌}
use lib.Dec.{eqb}
use borrow.Author.Tests.{eq-eqb, eqb-true}
use Rattle.type_layers.specs.Layers.{Layer, layer}
use Rattle.type_layers.proofs.Decide.{both}
use Rattle.relation_equals.specs.Equals.{same_layer, identical, plain, equals}

pub same-layers : (x y : Layer) → same_layer x y ≡ true → x ≡ y
same-layers x y e =
    let f = both (eqb x.kind y.kind && eqb x.name y.name) (eqb x.number y.number) e in
    let g = both (eqb x.kind y.kind) (eqb x.name y.name) f.0 in
    let k = eqb-true x.kind y.kind g.0 in
    let n = eqb-true x.name y.name g.1 in
    let m = eqb-true x.number y.number f.1 in
    let whole : layer x.kind x.name x.number ≡ layer y.kind y.name y.number = rw (k, n, m) in
    whole

-- Identical types are the same run of layers.
pub identical-equal : (a b : List Layer) → identical a b ≡ true → a ≡ b
unfolding identical
identical-equal [] [] e = refl
identical-equal [] (y ∷ b) e = absurd (false≢true e)
identical-equal (x ∷ a) [] e = absurd (false≢true e)
identical-equal (x ∷ a) (y ∷ b) e =
    let f = both (same_layer x y) (identical a b) e in
    rw (same-layers x y f.0, identical-equal a b f.1)

-- Every type is identical to itself.
pub identical-reflexive : (a : List Layer) → identical a a ≡ true
unfolding identical
identical-reflexive [] = refl
identical-reflexive (x ∷ a) =
    rw (eq-eqb x.kind x.kind refl, eq-eqb x.name x.name refl, eq-eqb x.number x.number refl) (identical-reflexive a)

-- Equals is an equivalence: reflexive, symmetric, transitive.
pub equals-reflexive : (a : List Layer) → equals a a ≡ true
unfolding equals
equals-reflexive a = identical-reflexive (plain a)

pub equals-symmetric : (a b : List Layer) → equals a b ≡ true → equals b a ≡ true
unfolding equals
equals-symmetric a b e = rw (identical-equal (plain a) (plain b) e) (identical-reflexive (plain b))

pub equals-transitive : (a b c : List Layer) → equals a b ≡ true → equals b c ≡ true → equals a c ≡ true
unfolding equals
equals-transitive a b c e f = rw (identical-equal (plain a) (plain b) e) f

-- Identical types are equal.
pub identical-equals : (a b : List Layer) → identical a b ≡ true → equals a b ≡ true
identical-equals a b e = rw (identical-equal a b e) (equals-reflexive b)
