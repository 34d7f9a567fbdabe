-- The word at which a part starts, by the part that was asked for.
-- Assumes nothing.
use denote.Ref.{Bor}
use mathlib.Core.Path.{◌≡◌, refl, sym, ap, ◌∙◌}
use mathlib.Core.Bool.{Bool, true, false, cond, false≢true}
use mathlib.Core.List.{List, [], ◌∷◌}
use Prim.Native.Nat.{ℕ, ◌+◌, ◌*◌, ◌-◌, ◌≤◌}
use native.Mathlib.Omega.{arith}
use lib.ListN.{length, length-drop}
use Rattle.std.specs.Prelude.{◌↔◌, Option, Some, None, IsSome, IsTrue}
use Rattle.type_layers.specs.Layers.{layers, outer, is_reference}
use Rattle.type_layers.specs.Answer.{given}
use Rattle.type_parts.specs.Parts.{inner_if, element_of, pointee_of, viewee_of, references, fully_dereferenced, has_element, has_pointee, has_viewee}
use Rattle.type_parts.specs.AsCoded.{words_of}
use Rattle.type_part_starts.specs.PartStarts.{inner_start, start_in}
use Rattle.type_part_starts.specs.AsCoded.{ReachesToTheEnd}
use Rattle.type_part_starts.specs.declared.part_starts.Part.{Part}
use Rattle.type_part_starts.specs.declared.part_starts.Part.TheVariants as part

-- a type that has an inner type has an outer layer
module _ (has : ℕ → Bool) (none : has 25 ≡ false) where
  outer-words : (ws : List ℕ) → has (outer (layers ws)) ≡ true → 3 ≤ length ws
  unfolding outer layers
  outer-words [] h = absurd (false≢true (sym none ∙ h))
  outer-words (k ∷ []) h = absurd (false≢true (sym none ∙ h))
  outer-words (k ∷ n ∷ []) h = absurd (false≢true (sym none ∙ h))
  outer-words (k ∷ n ∷ m ∷ ws) h = omega arith

  -- so an inner type starts three words in
  inner-reaches : (p : Part) (ws : List ℕ) (r : Option (Bor (List ℕ))) → start_in p (layers ws) ≡ inner_start (has (outer (layers ws))) →
      (IsSome r ↔ IsTrue (has (outer (layers ws)))) → words_of r ≡ inner_if (has (outer (layers ws))) ws → ReachesToTheEnd p ws r
  inner-reaches p ws r e = by_test (has (outer (layers ws))) r refl
    where
      by_test : (b : Bool) (r : Option (Bor (List ℕ))) → has (outer (layers ws)) ≡ b → (IsSome r ↔ IsTrue b) → words_of r ≡ inner_if b ws → ReachesToTheEnd p ws r
      by_test true (Some l) f i w =
          let n : length l.now ≡ length ws - 3 = ap length w ∙ length-drop 3 ws in
          let h = outer-words ws f in
          let d : length ws - length l.now ≡ 3 = omega (arith, n, h) in
          (omega (arith, n), e ∙ (rw (f, d)))
      by_test true None f i w = let s : IsSome {T = Bor (List ℕ)} None = i.1 refl in absurd (false≢true s)
      by_test false (Some l) f i w = absurd (false≢true (i.0 refl))
      by_test false None f i w = e ∙ (rw f)

-- no more Pointers and Views stand outside than there are layers
within : (ws : List ℕ) → references (layers ws) * 3 ≤ length ws
unfolding references layers
within [] = omega arith
within (k ∷ []) = omega arith
within (k ∷ n ∷ []) = omega arith
within (k ∷ n ∷ m ∷ ws) = by_kind (is_reference k) (within ws)
  where
    by_kind : (b : Bool) → references (layers ws) * 3 ≤ length ws → cond b (references (layers ws) + 1) 0 * 3 ≤ length (k ∷ n ∷ m ∷ ws)
    by_kind true h = omega arith
    by_kind false h = omega arith

-- each part, where it was asked for
module _ (p : Part) (ws : List ℕ) (r : Option (Bor (List ℕ))) where
  pub element : p ≡ part.Element → (IsSome r ↔ IsTrue (has_element (outer (layers ws)))) → words_of r ≡ element_of ws → ReachesToTheEnd p ws r
  unfolding start_in element_of
  element e i w = inner-reaches has_element refl p ws r (rw e) i w

  pub pointee : p ≡ part.Pointee → (IsSome r ↔ IsTrue (has_pointee (outer (layers ws)))) → words_of r ≡ pointee_of ws → ReachesToTheEnd p ws r
  unfolding start_in pointee_of
  pointee e i w = inner-reaches has_pointee refl p ws r (rw e) i w

  pub viewee : p ≡ part.Viewee → (IsSome r ↔ IsTrue (has_viewee (outer (layers ws)))) → words_of r ≡ viewee_of ws → ReachesToTheEnd p ws r
  unfolding start_in viewee_of
  viewee e i w = inner-reaches has_viewee refl p ws r (rw e) i w

module _ (p : Part) (ws l : List ℕ) (q : l ≡ fully_dereferenced ws) where
  dropped : length l ≡ length ws - references (layers ws) * 3
  unfolding fully_dereferenced
  dropped = ap length q ∙ length-drop (references (layers ws) * 3) ws

  pub no_longer : length l ≤ length ws
  no_longer = omega (arith, dropped)

  pub dereferenced : p ≡ part.Dereferenced → start_in p (layers ws) ≡ given (length ws - length l)
  unfolding start_in
  dereferenced e =
      let d : length ws - length l ≡ references (layers ws) * 3 = omega (arith, dropped, within ws) in
      rw (e, d)

pub ruleset reaching = (element, pointee, viewee, no_longer, dereferenced)
