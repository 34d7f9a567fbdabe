-- Each public contract allows one answer.
-- Assumes nothing.
use mathlib.Core.Path.{sym, ◌∙◌}
use Rattle.type_layers.proofs.Single.{Single}
use Rattle.write_answer.proofs.answer.accepted.Kinds as accepted-kinds
use Rattle.write_answer.proofs.answer.accepted.Reads as accepted
use Rattle.write_answer.proofs.answer.refused.Kinds as refused-kinds
use Rattle.write_answer.proofs.answer.refused.Reads as refused
use Rattle.write_answer.proofs.answer.AnswerFromRefused.from.Kinds as refusal-kinds
use Rattle.write_answer.proofs.answer.AnswerFromRefused.from.Reads as refusal
use Rattle.write_answer.proofs.answer.AnswerFromResultU64Refused.from.Kinds as checked-kinds
use Rattle.write_answer.proofs.answer.AnswerFromResultU64Refused.from.Reads as checked
use Rattle.write_answer.proofs.answer.AnswerFromResultBoolRefused.from.Kinds as verdict-kinds
use Rattle.write_answer.proofs.answer.AnswerFromResultBoolRefused.from.Reads as verdict

pub accepted-single : Single 0 accepted-kinds.ps accepted-kinds.r accepted.Post
accepted-single κs a x y s t p q = p ∙ sym q

pub refused-single : Single 0 refused-kinds.ps refused-kinds.r refused.Post
refused-single κs a x y s t p q = p ∙ sym q

-- of a refusal
pub told-refusal-single : Single 0 refusal-kinds.ps refusal-kinds.r refusal.Post
told-refusal-single κs a x y s t p q = p ∙ sym q

-- of a number, or why there is none
pub checked-single : Single 0 checked-kinds.ps checked-kinds.r checked.Post
checked-single κs a x y s t p q = p ∙ sym q

-- of yes or no, or why there is neither
pub verdict-single : Single 0 verdict-kinds.ps verdict-kinds.r verdict.Post
verdict-single κs a x y s t p q = p ∙ sym q
