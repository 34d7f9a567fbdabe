use borrow.Author.Rules.{rules}
use Rattle.type_first_refusal.proofs.Words.{small_word, no-layer-bad, word-bad, later-bad}
use Rattle.type_first_refusal.proofs.first_refusal.+first_bad_word.Goals as goal

pub overflow_add-result : goal.overflow_add-result
overflow_add-result t c = search (rules, small_word _ _ _ c.bad_word.ensures c.in-Some.is)

pub returns-in_default : goal.returns-in_default
returns-in_default t c = search no-layer-bad

pub returns-in-Some : goal.returns-in-Some
returns-in-Some t c = search word-bad

pub returns-in-None : goal.returns-in-None
returns-in-None t c = search later-bad
