-- What the code asks of both rules, layer by layer, by what it tested of the outer ones.
-- Assumes nothing.
use mathlib.Core.Path.{◌≡◌}
use mathlib.Core.Bool.{Bool, true, false, ◌&&◌}
use mathlib.Core.List.{List}
use Prim.Native.Nat.{ℕ, ◌≤◌, ◌<◌}
use lib.Dec.{eqb}
use lib.ListN.{length, get_or}
use Rattle.type_layers.specs.Layers.{layers}
use Rattle.type_layers.proofs.Words.{rest, none, more}
use Rattle.relation_equals.specs.Equals.{identical, plain}
use Rattle.relation_equals.specs.AsCoded.{counted_kind, same}

module _ (a b : List ℕ) where
  pub same-none : (h : Bool) → length a < 3 → length b < 3 → true ≡ same h (layers a) (layers b)
  unfolding same identical plain
  same-none true h k = rw (none a, none b)
  same-none false h k = rw (none a, none b)

  pub same-more : (h : Bool) → 3 ≤ length a → length b < 3 → false ≡ same h (layers a) (layers b)
  unfolding same identical plain
  same-more true h k = rw (more a, none b)
  same-more false h k = rw (more a, none b)

  pub same-less : (h : Bool) → length a < 3 → 3 ≤ length b → false ≡ same h (layers a) (layers b)
  unfolding same identical plain
  same-less true h k = rw (none a, more b)
  same-less false h k = rw (none a, more b)

  -- k and l are the kinds that count of the outer layers
  module _ (h : Bool) (p : 3 ≤ length a) (q : 3 ≤ length b) (k l : ℕ)
      (e : k ≡ counted_kind h (get_or a 0 0)) (f : l ≡ counted_kind h (get_or b 0 0)) where
    abbrev outer_same : Bool
    outer_same = eqb k l && eqb (get_or a 1 0) (get_or b 1 0) && eqb (get_or a 2 0) (get_or b 2 0)

    pub same-outer : same h (layers a) (layers b) ≡ (outer_same && same h (layers (rest a)) (layers (rest b)))
    unfolding same identical plain
    same-outer = by-reading h e f
      where
        by-reading : (h : Bool) → k ≡ counted_kind h (get_or a 0 0) → l ≡ counted_kind h (get_or b 0 0) →
            same h (layers a) (layers b) ≡ (outer_same && same h (layers (rest a)) (layers (rest b)))
        by-reading true e f = rw (more a, more b, e, f)
        by-reading false e f = rw (more a, more b, e, f)

pub ruleset ends = (same-none, same-more, same-less)
