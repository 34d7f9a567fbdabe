-- What follows from the definition of the stored size.
-- Assumes nothing.
use mathlib.Core.Path.{◌≡◌, refl, sym, ap, ◌∙◌}
use mathlib.Core.Bool.{Bool, true, false, not, ◌&&◌, ◌||◌, false≢true}
use mathlib.Core.List.{List, [], ◌∷◌}
use Prim.Native.Nat.{ℕ, ◌≤◌}
use Rattle.type_layers.specs.Layers.{Layer, layers}
use Rattle.type_layers.specs.Answer.{given, nothing, is_given, next}
use Rattle.type_layers.proofs.Decide.{both}
use Rattle.type_layers.proofs.Given.{given_is}
use Rattle.type_checks.specs.Check.{check_of}
use Rattle.type_checks.proofs.Refusals.{passed}
use Rattle.type_stored_size.specs.StoredSize.{width_answer, has_one_width, has_two_widths, stored_size, stored_size_answer}
use Rattle.type_stored_size.specs.Earlier.{earlier_stored_size, earlier_stored_size_answer}
use Rattle.type_stored_size.proofs.Widths.{not-above, none_stays, size-told, other_width}

-- "Width 8 gives every earlier answer.": the size of every type,
pub size-as-it-was : (a : List Layer) → stored_size 8 a ≡ earlier_stored_size a
unfolding stored_size earlier_stored_size
size-as-it-was [] = refl
size-as-it-was (x ∷ a) = rw (size-as-it-was a)

-- and what is answered of any words, refusals too.
pub as_it_was : (ws : List ℕ) → stored_size_answer 8 ws ≡ earlier_stored_size_answer ws
unfolding stored_size_answer earlier_stored_size_answer
as_it_was ws = ap (next (check_of ws)) (size-as-it-was (layers ws))

-- Whether a type is without Usize, Pointer, View, Slice and SlicePointer.
unfoldable pub without_widths : List Layer → Bool
without_widths [] = true
without_widths (x ∷ a) = not (has_one_width x.kind || has_two_widths x.kind) && without_widths a

-- Such a type has the same size, or none, or one too large, with pointers of any two widths;
pub same-for-any : (v w : ℕ) (a : List Layer) → without_widths a ≡ true → stored_size v a ≡ stored_size w a
unfolding stored_size without_widths
same-for-any v w [] e = refl
same-for-any v w (x ∷ a) e =
    let h = both (not (has_one_width x.kind || has_two_widths x.kind)) (without_widths a) e in
    by_tests (same-for-any v w a h.1) (has_one_width x.kind) (has_two_widths x.kind) refl refl h.0
  where
    by_tests : stored_size v a ≡ stored_size w a → (s t : Bool) → has_one_width x.kind ≡ s → has_two_widths x.kind ≡ t →
        not (s || t) ≡ true → stored_size v (x ∷ a) ≡ stored_size w (x ∷ a)
    by_tests i false false f g h = rw (f, g, i)
    by_tests i false true f g h = absurd (false≢true h)
    by_tests i true t f g h = absurd (false≢true h)

-- and of such words the same is answered for both widths.
pub same-on-both : (v w : ℕ) (ws : List ℕ) → is_given (width_answer v) ≡ true → is_given (width_answer w) ≡ true →
    without_widths (layers ws) ≡ true → stored_size_answer v ws ≡ stored_size_answer w ws
unfolding stored_size_answer
same-on-both v w ws g h e =
    ap (next (check_of ws))
    (passed (width_answer v) (stored_size v (layers ws)) g
    ∙ (same-for-any v w (layers ws) e ∙ sym (passed (width_answer w) (stored_size w (layers ws)) h)))

-- Where a type has a size with wide pointers, it has one with narrow ones;
pub has-one-too : (v w : ℕ) → v ≤ w → is_given (width_answer v) ≡ true → (ws : List ℕ) (n : ℕ) → stored_size_answer w ws ≡ given n →
    (m : ℕ) × (stored_size_answer v ws ≡ given m)
has-one-too v w l g ws n e =
    let s = not-above v w l (layers ws) n (size-told ws (given n) refl w e) in
    (s.0, other_width ws (given n) refl v w g e ∙ s.1.0)

-- and where both have one, that with narrow pointers never exceeds the other.
pub never-exceeds : (v w : ℕ) → v ≤ w → (ws : List ℕ) (m n : ℕ) → stored_size_answer v ws ≡ given m → stored_size_answer w ws ≡ given n → m ≤ n
never-exceeds v w l ws m n d e =
    let s = not-above v w l (layers ws) n (size-told ws (given n) refl w e) in
    let same : m ≡ s.0 = given_is m s.0 (sym (size-told ws (given m) refl v d) ∙ s.1.0) in
    rw same s.1.1

-- Where a type has no size with one width, it has none with the other.
pub none-on-both : (v w : ℕ) → is_given (width_answer w) ≡ true → (ws : List ℕ) → stored_size_answer v ws ≡ nothing → stored_size_answer w ws ≡ nothing
none-on-both v w g ws e = other_width ws nothing refl w v g e ∙ none_stays v w (layers ws) (size-told ws nothing refl v e)
