-- The current type of the rounds stays well formed, its layers good and at most 16, where those of the known type and the
-- members are.
-- Assumes nothing.
use mathlib.Core.Path.{◌≡◌, refl}
use mathlib.Core.Bool.{Bool, true, false, cond, not, ◌&&◌, ◌||◌, and-false, or-true, false≢true, true≢false}
use mathlib.Core.List.{List, [], ◌∷◌}
use Prim.Native.Nat.{ℕ, ◌≤◌}
use native.Mathlib.Omega.{arith}
use lib.Dec.{eqb}
use lib.ListN.{length, drop}
use borrow.Author.Tests.{eqb-true}
use Rattle.type_numbers.specs.Kind as kind
use Rattle.type_layers.specs.Layers.{Layer, outer, inside, is_array, is_slice, is_reference, holds_inner}
use Rattle.type_layers.specs.Answer.{given, refused}
use Rattle.type_checks.specs.Check.{good_layer}
use Rattle.type_checks.proofs.Accepted.{good_layers}
use Rattle.type_layers.proofs.Decide.{both}
use Rattle.type_wellformed.specs.WellFormed.{inner, element, well_formed}
use Rattle.plan_steps.specs.Steps.{Step}
use Rattle.type_layers.proofs.Given.{not-given, given_is}
use Rattle.plan_turn.proofs.Cases.{cases}
use Rattle.symbol_members.specs.Member.{Stored, typed, absent}
use Rattle.plan_rounds.specs.Rounds.{ended, goes, turn_at, member_type, in_rounds}
use Rattle.planner.proofs.Leads.{reached}
use Rattle.plan_rounds.proofs.Reading.{one_in, two_in}
use Rattle.planner.proofs.Rounds.{every-rounds}

-- a type of good layers, at most 16
pub record Passing (t : List Layer) : Type 0 where
  pub good : good_layers t ≡ true
  pub few : length t ≤ 16

-- such a type that is well formed
pub record Sound (t : List Layer) : Type 0 where
  pub formed : well_formed t ≡ true
  pub passing : Passing t

no-void : (k : ℕ) → holds_inner k ≡ true → eqb k kind.void ≡ false
no-void k e = by_kind (eqb k kind.void) refl
  where
    by_kind : (f : Bool) → eqb k kind.void ≡ f → f ≡ false
    by_kind true p = absurd (false≢true (rw (eqb-true k kind.void p) at e))
    by_kind false p = refl

-- what a well-formed type holds is an Inner: an Array, Slice or SlicePointer holds an Element, a Pointer or View an Inner
held : (h v a p s w i n : Bool) → h ≡ true → v ≡ false →
    ((not h && not v) || (a && (i && n)) || (p && i) || v || (s && (i && n)) || (w && i)) ≡ true → i ≡ true
held h v a p s w true n f g e = refl
held true false a p s w false n f g e = rw (and-false a, and-false p, and-false s, and-false w) at e
held h true a p s w false n f g e = absurd (true≢false g)
held false false a p s w false n f g e = absurd (false≢true f)

pub inner_of : (x : Layer) (a : List Layer) → holds_inner x.kind ≡ true → well_formed (x ∷ a) ≡ true → inner a ≡ true
unfolding well_formed inner element outer inside
inner_of x a e f =
    held (holds_inner x.kind) (eqb x.kind kind.void) (is_array x.kind) (eqb x.kind kind.pointer) (is_slice x.kind) (eqb x.kind kind.view)
    (inner a) (not (eqb (outer a) kind.endless_array)) e (no-void x.kind e) f

pub inner-formed : (t : List Layer) → inner t ≡ true → well_formed t ≡ true
unfolding well_formed
inner-formed t e = rw e

-- the inner type of a sound type
pub part_sound : (t : List Layer) → holds_inner (outer t) ≡ true → Sound t → Sound (inside t)
unfolding outer inside good_layers
part_sound [] e s = absurd (false≢true e)
part_sound (x ∷ a) e s =
    record {
      formed = inner-formed a (inner_of x a e s.formed);
      passing = record { good = (both (good_layer x) (good_layers a) s.passing.good).1; few = omega (arith, s.passing.few) };
    }

holds_array : (k : ℕ) → is_array k ≡ true → holds_inner k ≡ true
holds_array k e = rw e

holds-reference : (k : ℕ) → is_reference k ≡ true → holds_inner k ≡ true
holds-reference k e = rw (e, or-true (is_array k || is_slice k))

holds : (k l : ℕ) → holds_inner l ≡ true → k ≡ l → holds_inner k ≡ true
holds k l e p = rw p e

module _ (stored : ℕ → Stored) (pass : (id : ℕ) (t : List Layer) → stored id ≡ typed t → Passing t) where
  member-sound : (id : ℕ) (u : List Layer) → member_type (stored id) ≡ given u → Sound u
  member-sound id u g = record { formed = by-stored (stored id) g; passing = pass id u (reached (stored id) u g) }
    where
      by_form : (t : List Layer) (f : Bool) → well_formed t ≡ f → cond f (given t) (refused 4 0) ≡ given u → well_formed u ≡ true
      by_form t true p g = rw (← given_is t u g) p
      by_form t false p g = absurd (not-given 4 0 u g)

      by-stored : (m : Stored) → member_type m ≡ given u → well_formed u ≡ true
      by-stored absent g = absurd (not-given 11 0 u g)
      by-stored (typed t) g = by_form t (well_formed t) refl g

  goes-sound : (t : List Layer) (a : Step) (u : List Layer) → goes stored t a (turn_at t a) ≡ given u → Sound t → Sound u
  goes-sound t a u g s =
      cases (outer t) (outer (inside t)) a.kind a.mark (λ r. goes stored t a r ≡ given u → Sound u)
      (λ g. absurd (not-given 8 0 u g))
      (λ e g. rw (← given_is (inside t) u g) (part_sound t (holds (outer t) kind.pointer refl e) s))
      (λ e g. rw (← given_is (inside t) u g) (part_sound t (holds (outer t) kind.view refl e) s))
      (λ d e f h g. rw (← given_is (drop 2 t) u g, two_in t) (part_sound (inside t) (holds (outer (inside t)) kind.arraylike refl f) (part_sound t (holds-reference (outer t) e) s)))
      (λ m w e f g. rw (← given_is (drop 1 t) u g, one_in t) (part_sound t (holds_array (outer t) e) s))
      (λ e f g. rw (← given_is (inside t) u g) (part_sound t (holds (outer t) kind.slice refl e) s))
      (λ e f g. rw (← given_is (inside t) u g) (part_sound t (holds (outer t) kind.slice_pointer refl e) s))
      (λ e f g. member-sound a.handle u g) g

  -- the current type of rounds that end is sound
  pub rounds-sound : (n : ℕ) (t : List Layer) (q ss : List Step) (k : ℕ) (c : List Layer) → in_rounds stored n t q ≡ ended ss k c → Sound t → Sound c
  rounds-sound n t q ss k c e =
      every-rounds stored (λ n t q ss k c. Sound t → Sound c) (λ t q s. s) (λ n t s. s)
      (λ n t a q u us j c g h s. h (goes-sound t a u g s)) n t q ss k c e
