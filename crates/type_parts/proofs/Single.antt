-- Each public contract allows one part: of any two that it allows of the same arguments the words coincide, or there is none.
-- Assumes nothing.
use mathlib.Core.Path.{◌≡◌, refl, sym, ap, ◌∙◌}
use mathlib.Core.List.{List}
use Prim.Native.Nat.{ℕ}
use contract.Lifetimes.{Lfts}
use denote.Triple.Clauses.{AtExit}
use borrow.Fn.Kinds.{Out, Dens, res_t, ended_of}
use denote.Ref.{Bor}
use Rattle.std.specs.Prelude.{◌↔◌, Option, Some, None, IsSome}
use Rattle.type_layers.proofs.Single.{SinglePart}
use Rattle.type_parts.specs.AsCoded.{words_of}
use Rattle.type_parts.proofs.parts.get_element_type.Kinds as found-kinds
use Rattle.type_parts.proofs.parts.get_element_type.Reads as element
use Rattle.type_parts.proofs.parts.get_pointee_type.Reads as pointee
use Rattle.type_parts.proofs.parts.get_viewee_type.Reads as viewee
use Rattle.type_parts.proofs.parts.fully_dereferenced.Reads as dereferenced

-- the words of a part that may be handed back
abbrev pub words : Option (Bor (List ℕ)) → Option (List ℕ)
words (Some part) = Some part.now
words None = None

same_words : (P : Type 0) (ws : List ℕ) (x y : Option (Bor (List ℕ))) → (IsSome x ↔ P) → words_of x ≡ ws →
    (IsSome y ↔ P) → words_of y ≡ ws → words x ≡ words y
same_words P ws (Some a) (Some b) f p g q = ap Some (p ∙ sym q)
same_words P ws (Some a) None f p g q = let h : IsSome {T = Bor (List ℕ)} None = g.1 (f.0 refl) in cc
same_words P ws None (Some b) f p g q = let h : IsSome {T = Bor (List ℕ)} None = f.1 (g.0 refl) in cc
same_words P ws None None f p g q = refl

abbrev pub SingleFound : Out 1 found-kinds.ps found-kinds.r → Type 0
SingleFound Q =
    (κs : Lfts 1) (a : Dens κs found-kinds.ps) (x y : (res_t found-kinds.r κs).Denot) (s t : AtExit (ended_of 1 found-kinds.ps found-kinds.r) κs) →
    Q κs a x s → Q κs a y t → words x ≡ words y

pub get-element-type-single : SingleFound element.Post
get-element-type-single κs a x y s t p q = same_words _ _ x y p.0 p.1 q.0 q.1

pub get-pointee-type-single : SingleFound pointee.Post
get-pointee-type-single κs a x y s t p q = same_words _ _ x y p.0 p.1 q.0 q.1

pub get-viewee-type-single : SingleFound viewee.Post
get-viewee-type-single κs a x y s t p q = same_words _ _ x y p.0 p.1 q.0 q.1

pub fully-dereferenced-single : SinglePart dereferenced.Post
fully-dereferenced-single κs a x y s t p q = p ∙ sym q
