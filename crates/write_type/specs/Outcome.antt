-- From the type that was made to the answer and the words that are lent.
use Rattle.std.specs.Prelude.{◌≡◌, cond, List, ℕ, ltb, length, Result}
use Rattle.type_numbers.specs.Limit as limit
use Rattle.type_numbers.specs.Refusal as refusal
use Rattle.type_layers.specs.Layers.{Layer, spelled}
use Rattle.type_layers.specs.Answer.{Answer, given, nothing, refused, of_result}
use Rattle.write_words.specs.Written.{written}
use Rattle.type_layers.specs.declared.answers.Refused.{Refused}

-- "14 output too short for this result; 15 result over 16 layers", in the order "15, 14".
unfoldable pub delivered : ℕ → Answer (List Layer) → Answer (List Layer)
delivered room (given a) =
    cond (ltb limit.layers (length a)) (refused refusal.too_many_layers 0)
    (cond (ltb room (length (spelled a))) (refused refusal.output_too_short 0)
    (given a))
delivered room nothing = nothing
delivered room (refused n p) = refused n p

-- How many words the type has; or the refusal.
unfoldable pub told : Answer (List Layer) → Answer ℕ
told (given a) = given (length (spelled a))
told nothing = nothing
told (refused n p) = refused n p

-- "A result is written from the output's first word; the rest is kept." A refusal "changes nothing lent".
unfoldable pub over : Answer (List Layer) → List ℕ → List ℕ
over (given a) b = written (spelled a) b
over nothing b = b
over (refused n p) b = b

-- Both, where the type goes to the words that were lent.
abbrev pub answer_in : List ℕ → Answer (List Layer) → Answer ℕ
answer_in out o = told (delivered (length out) o)

abbrev pub buffer_in : List ℕ → Answer (List Layer) → List ℕ
buffer_in out o = over (delivered (length out) o) out

-- What is handed out for a type that was made, or a refusal: what the code says, and the output, before and then.
abbrev pub Writes : Answer (List Layer) → Result ℕ Refused → List ℕ → List ℕ → Type 0
Writes a r out out' = (of_result r ≡ answer_in out a) × (out' ≡ buffer_in out a)
