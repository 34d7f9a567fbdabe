-- A type that was made, as it is told and written.
-- Assumes nothing.
use mathlib.Core.Path.{◌≡◌, ap, ◌∙◌}
use mathlib.Core.List.{List, [], ◌++◌}
use Prim.Native.Nat.{ℕ}
use Rattle.type_layers.specs.Layers.{Layer, layers, spelled}
use Rattle.type_layers.specs.Answer as paper
use Rattle.type_layers.specs.Answer.{given}
use Rattle.type_layers.proofs.Spelling.{layers-spelled}
use Rattle.write_type.specs.Outcome.{answer_in, buffer_in}
use Rattle.write_answer.specs.declared.answer.Answer.{Answer}
use Rattle.write_answer.specs.Flat.{flat}

-- what is told of a type, and what the output is afterwards
abbrev Tells : List Layer → List ℕ → Answer → List ℕ → Type 0
Tells a out r out' = (r ≡ flat (answer_in out (given a))) × (out' ≡ buffer_in out (given a))

-- words with nothing in front
pub alone : (t out out' : List ℕ) (r : Answer) (k : paper.Answer ℕ) →
    (k ≡ answer_in out (given (layers [] ++ layers t))) × (out' ≡ buffer_in out (given (layers [] ++ layers t))) → r ≡ flat k →
    Tells (layers t) out r out'
unfolding layers
alone t out out' r k p q = (q ∙ ap flat p.0, p.1)

-- words that spell a type
pub spells : (t out out' : List ℕ) (r : Answer) (a : List Layer) → t ≡ spelled a → Tells (layers t) out r out' → Tells a out r out'
spells t out out' r a e p = rw (e, layers-spelled) at p
