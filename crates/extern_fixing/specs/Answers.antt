-- Extern fixing for any words, contexts and buffers.
use Rattle.std.specs.Prelude.{Bool, List, ℕ, length}
use Rattle.type_layers.specs.Layers.{Layer, layers}
use Rattle.type_layers.specs.Answer.{Answer, next}
use Rattle.type_checks.specs.Check.{check_of}
use Rattle.extern_fixing.specs.Fixing.{fixed}
use Rattle.write_type.specs.Outcome.{delivered, told, over}

-- The type that is written, or the first refusal: 1 to 3, 5, 4, 6, 15, 14.
unfoldable pub fixed_type : List ℕ → Bool → ℕ → ℕ → Answer (List Layer)
fixed_type t external context room = next (check_of t) (delivered room (fixed external context (layers t)))

-- How many words are written, or the refusal.
unfoldable pub fixed_answer : List ℕ → Bool → ℕ → List ℕ → Answer ℕ
fixed_answer t external context out = told (fixed_type t external context (length out))

-- What the buffer holds then.
unfoldable pub fixed_buffer : List ℕ → Bool → ℕ → List ℕ → List ℕ
fixed_buffer t external context out = over (fixed_type t external context (length out)) out
