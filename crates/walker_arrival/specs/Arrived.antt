-- The end of a walk: the type that is reached, "then the address where address is set".
use Rattle.std.specs.Prelude.{◌≡◌, ℕ, Bool, cond, List, ◌∷◌}
use Rattle.type_numbers.specs.Kind as kind
use Rattle.type_layers.specs.Layers.{Layer, layer}
use Rattle.write_answer.specs.Flat.{flat}
use Rattle.write_answer.specs.declared.answer.Answer.{Answer}
use Rattle.write_type.specs.Outcome.{answer_in, buffer_in}
use Rattle.type_layers.specs.Answer as paper

abbrev pub addressed : Bool → List Layer → List Layer
addressed address t = cond address (layer kind.pointer 0 0 ∷ t) t

-- What is handed out for a type that was reached, or a refusal: the answer, and the output, before and then.
abbrev pub HandsOut : paper.Answer (List Layer) → Answer → List ℕ → List ℕ → Type 0
HandsOut a r out out' = (r ≡ flat (answer_in out a)) × (out' ≡ buffer_in out a)
