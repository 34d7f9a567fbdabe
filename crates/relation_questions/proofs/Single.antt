-- Each public contract allows one result: any two that it allows of the same arguments coincide.
-- Assumes nothing.
use mathlib.Core.Path.{◌≡◌, sym, ap, ◌∙◌}
use Rattle.std.specs.Prelude.{Result, Ok, Err}
use Rattle.type_numbers.specs.Refusal.{number_of}
use Rattle.type_layers.specs.declared.answers.Refused.{Refused}
use Rattle.type_layers.proofs.Apart.{verdict-apart, same-place}
use Rattle.type_layers.proofs.Given.{given_is}
use Rattle.type_layers.proofs.Single.{Single}
use Rattle.relation_coerces.specs.AsCoded.{of_coercion}
use Rattle.relation_coerces.proofs.Single.{coercion-apart}
use Rattle.relation_coerces.specs.declared.coercion.Coercion.{Coercion}
use Rattle.relation_questions.specs.AsCoded.{of_coercion_answer}
use Rattle.relation_questions.proofs.ask_relation.holds.Kinds as holds-kinds
use Rattle.relation_questions.proofs.ask_relation.holds.Reads as holds
use Rattle.relation_questions.proofs.ask_relation.relates.Kinds as relates-kinds
use Rattle.relation_questions.proofs.ask_relation.relates.Reads as relates
use Rattle.relation_questions.proofs.ask_coercion.coerces.Kinds as coerces-kinds
use Rattle.relation_questions.proofs.ask_coercion.coerces.Reads as coerces

pub holds-single : Single 2 holds-kinds.ps holds-kinds.r holds.Post
holds-single κs a x y s t p q = p ∙ sym q

pub relates-single : Single 2 relates-kinds.ps relates-kinds.r relates.Post
relates-single κs a x y s t p q = verdict-apart x y (p ∙ sym q)

-- the answers to the coercion question are apart
coercion-answer-apart : (x y : Result Coercion Refused) → of_coercion_answer x ≡ of_coercion_answer y → x ≡ y
coercion-answer-apart (Ok c) (Ok d) e = ap Ok (coercion-apart c d (given_is (of_coercion c) (of_coercion d) e))
coercion-answer-apart (Ok c) (Err d) e = cc
coercion-answer-apart (Err d) (Ok c) e = cc
coercion-answer-apart (Err d) (Err e) p =
    let n : number_of d.refusal ≡ number_of e.refusal = cc in
    let q : d.place ≡ e.place = cc in
    ap Err (same-place d e n q)

pub coerces-single : Single 2 coerces-kinds.ps coerces-kinds.r coerces.Post
coerces-single κs a x y s t p q = coercion-answer-apart x y (p ∙ sym q)
