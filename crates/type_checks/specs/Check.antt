-- The checks 1 to 3 of a type's words: "Types are checked 1, 2 (all layers), 3".
use Rattle.std.specs.Prelude.{Bool, true, cond, not, ◌&&◌, ◌||◌, List, [], ◌∷◌, ℕ, ◌+◌, ◌*◌, ◌/◌, ◌%◌, eqb, leb, ltb, length}
use Rattle.type_numbers.specs.Limit as limit
use Rattle.type_numbers.specs.Refusal as refusal
use Rattle.type_numbers.specs.Kind as kind
use Rattle.type_layers.specs.Layers.{Layer, layers, holds_inner}
use Rattle.type_layers.specs.Answer.{Answer, given, refused}

-- The place that a check stumbles over first, from 0; or none.
pub data Place : Type 0 where
  at : ℕ → Place
  nowhere : Place

-- "1 word count 0, over 48 or not a multiple of 3"
abbrev pub bad_count : ℕ → Bool
bad_count n = eqb n 0 || ltb limit.type_words n || not (eqb (n % 3) 0)

-- The three tests of a layer, one for each word. A kind is one of the 25.
abbrev pub good_kind : Layer → Bool
good_kind x = ltb x.kind kind.none

-- "Name is a u32 value for 15, 20, 21 and a named 22." "Other fields are 0."
-- And so request e: "Under kind 22 a name is judged as named unless the number is 0."
abbrev pub named : Layer → Bool
named x =
    eqb x.kind kind.array_with_named_length
    || eqb x.kind kind.struct
    || eqb x.kind kind.word
    || (eqb x.kind kind.unresolved_struct_or_word && not (eqb x.number 0))

abbrev pub good_name : Layer → Bool
good_name x = cond (named x) (leb x.name limit.name) (eqb x.name 0)

-- "Number is the length for 14, the size for 21, and for 22 it is 1 with a name, 0 without (name then 0)." "Other fields are 0."
abbrev pub good_number : Layer → Bool
good_number x =
    cond (eqb x.kind kind.array || eqb x.kind kind.word) true
    (cond (eqb x.kind kind.unresolved_struct_or_word) (leb x.number 1)
    (eqb x.number 0))

-- "2 a bad layer"
unfoldable pub good_layer : Layer → Bool
good_layer x = good_kind x && good_name x && good_number x

-- The word that is told of a bad layer, by request e: "in it the first bad word, kind before name before number"
unfoldable pub bad_word : Layer → Place
bad_word x =
    cond (not (good_kind x)) (at 0)
    (cond (not (good_name x)) (at 1)
    (cond (not (good_number x)) (at 2)
    nowhere))

-- The place of the bad word of layer p; where there is none, what follows. So request e: "Let refusal 2 give layer and
-- word, as three times the layer plus the word, both from 0."
abbrev pub word_in : ℕ → Place → Place → Place
word_in p (at w) c = at (3 * p + w)
word_in p nowhere c = c

-- The place of the first bad word in a run that starts with layer p: that of "the first bad layer".
unfoldable pub bad_layer : ℕ → List Layer → Place
bad_layer p [] = nowhere
bad_layer p (x ∷ a) = word_in p (bad_word x) (bad_layer (p + 1) a)

-- "3 leaf early or missing": a layer that holds an inner type is never last, a leaf always is. "Refusal 3 keeps the layer."
unfoldable pub misplaced : ℕ → List Layer → Place
misplaced p [] = nowhere
misplaced p (x ∷ []) = cond (holds_inner x.kind) (at p) nowhere
misplaced p (x ∷ y ∷ a) = cond (holds_inner x.kind) (misplaced (p + 1) (y ∷ a)) (at p)

-- The refusal of that number where a place was found; else what follows.
abbrev pub unless : Place → ℕ → Answer ℕ → Answer ℕ
unless (at p) n c = refused n p
unless nowhere n c = c

-- The layer count, or the first refusal.
unfoldable pub check_of : List ℕ → Answer ℕ
check_of ws =
    cond (bad_count (length ws)) (refused refusal.bad_count 0)
    (unless (bad_layer 0 (layers ws)) refusal.bad_layer
    (unless (misplaced 0 (layers ws)) refusal.bad_leaf
    (given (length ws / 3))))
