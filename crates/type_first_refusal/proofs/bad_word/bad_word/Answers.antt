use Rattle.type_first_refusal.proofs.Words.{kind-told, name-told, number-told, none_told}
use Rattle.type_first_refusal.proofs.bad_word.bad_word.Goals as goal

pub returns-then-k-gt-VIEW : goal.returns-then-k-gt-VIEW
returns-then-k-gt-VIEW c = search kind-told

pub returns-then-not-good_name : goal.returns-then-not-good_name
returns-then-not-good_name c = search name-told

pub returns-then-not-good_number : goal.returns-then-not-good_number
returns-then-not-good_number c = search number-told

pub returns : goal.returns
returns c = search none_told
