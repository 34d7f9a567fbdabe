-- What is told of two types, by the rule that the answer meets.
-- Assumes nothing.
use mathlib.Core.Path.{◌≡◌, sym, ap, refl, ◌∙◌}
use mathlib.Core.Bool.{Bool, true, false, ◌&&◌}
use mathlib.Core.List.{List}
use Prim.Native.Nat.{ℕ}
use Rattle.std.specs.Int.{from_bool}
use Rattle.type_layers.specs.Layers.{layers}
use Rattle.type_layers.specs.Answer as paper
use Rattle.type_layers.specs.Answer.{next, truth, is_given}
use Rattle.type_checks.specs.Check.{check_of}
use Rattle.type_layers.proofs.Decide.{both}
use Rattle.type_checks.proofs.Refusals.{passed}
use Rattle.relation_coerces.specs.Coercion.{coercion}
use Rattle.relation_questions.specs.Questions.{relates, relation_answer, coercion_answer}
use Rattle.relation_questions.specs.declared.ask_relation.Relation.{Relation}
use Rattle.write_answer.specs.declared.answer.Answer.{Answer}
use Rattle.write_answer.specs.Flat.{accepted, flat}

-- yes is told as 1 and no as 0
truth-told : (f : Bool) (n : ℕ) → n ≡ from_bool f → accepted n ≡ flat (truth f)
unfolding flat
truth-told true n e = rw e
truth-told false n e = rw e

number-told : (n : ℕ) → accepted n ≡ flat (paper.given n)
unfolding flat
number-told n = refl

-- both are types: no refusal comes before what follows
module _ (a b : List ℕ) (g : Bool) (p : g ≡ (is_given (check_of a) && is_given (check_of b))) (h : g ≡ true) where
  follows : (t : paper.Answer ℕ) → next (check_of a) (next (check_of b) t) ≡ t
  follows t =
      let e = both (is_given (check_of a)) (is_given (check_of b)) (sym p ∙ h) in
      passed (check_of a) _ e.0 ∙ passed (check_of b) _ e.1

  pub relation-direct : (w : Relation) (f : Bool) → f ≡ relates w (layers a) (layers b) → (n : ℕ) → n ≡ from_bool f → (r : Answer) → r ≡ accepted n →
      r ≡ flat (relation_answer w a b)
  unfolding relation_answer
  relation-direct w f e n k r q = q ∙ (truth-told f n k ∙ ap flat (rw (← e) (sym (follows (truth f)))))

  pub coercion-direct : (m : ℕ) → m ≡ coercion (layers a) (layers b) → (n : ℕ) → n ≡ m → (r : Answer) → r ≡ accepted n → r ≡ flat (coercion_answer a b)
  unfolding coercion_answer
  coercion-direct m f n e r q = q ∙ (number-told n ∙ ap flat (rw (← f, ← e) (sym (follows (paper.given n)))))
