-- How a type is written.
use Rattle.std.specs.Prelude.{Bool, ◌||◌, List, [], ◌∷◌, ℕ, eqb, drop}
use Rattle.type_numbers.specs.Kind as kind

-- "A layer is three u64 words: kind, name, number."
pub record Layer : Type 0 where
  pub kind : ℕ
  pub name : ℕ
  pub number : ℕ

abbrev pub layer : ℕ → ℕ → ℕ → Layer
layer k n m = record { kind = k; name = n; number = m }

-- "A type is a run of layers, outermost first, ended by a leaf."
unfoldable pub layers : List ℕ → List Layer
layers (k ∷ n ∷ m ∷ ws) = layer k n m ∷ layers ws
layers (k ∷ n ∷ []) = []
layers (k ∷ []) = []
layers [] = []

-- The words of a run of layers.
unfoldable pub spelled : List Layer → List ℕ
spelled [] = []
spelled (x ∷ a) = x.kind ∷ x.name ∷ x.number ∷ spelled a

-- The kinds that hold an inner type: arrays of any sort, slices, references.
abbrev pub is_array : ℕ → Bool
is_array k = eqb k kind.array || eqb k kind.array_with_named_length || eqb k kind.endless_array || eqb k kind.arraylike

abbrev pub is_slice : ℕ → Bool
is_slice k = eqb k kind.slice || eqb k kind.slice_pointer

abbrev pub is_reference : ℕ → Bool
is_reference k = eqb k kind.pointer || eqb k kind.view

-- "Kinds 14-19, 23, 24 are never last, all others always."
abbrev pub holds_inner : ℕ → Bool
holds_inner k = is_array k || is_slice k || is_reference k

-- The outer layer's kind; of no layer 25, which is no kind.
unfoldable pub outer : List Layer → ℕ
outer [] = kind.none
outer (x ∷ a) = x.kind

-- The inner type.
unfoldable pub inside : List Layer → List Layer
inside [] = []
inside (x ∷ a) = a

-- "The inner type is the caller's own words from the next layer on".
abbrev pub inner_words : List ℕ → List ℕ
inner_words ws = drop 3 ws
