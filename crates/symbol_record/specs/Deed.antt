-- What an act does to one record and to the words of its slot.
use Rattle.std.specs.Prelude.{Bool, cond, List, ℕ}
use Rattle.type_numbers.specs.Effect as effect
use Rattle.type_numbers.specs.State as of-state
use Rattle.write_words.specs.Written.{written}
use Rattle.symbol_columns.specs.declared.symbol.Symbol.{Symbol}
use Rattle.write_answer.specs.declared.answer.Answer.{Answer}
use Rattle.write_answer.specs.Flat.{accepted}
use Rattle.symbol_update.specs.Update.{typed, updated, words_after}
use Rattle.symbol_operations.specs.Act as act
use Rattle.symbol_operations.specs.Act.{Act}
use Rattle.symbol_operations.specs.Operations.{offers_type}

-- "Poisoning sets the layer count to 0; writing a type sets the mark to 0."
abbrev pub poisoned : ℕ → Bool → ℕ → ℕ → Symbol
poisoned id authority place mark =
    record { id = id; authority = authority; place = place; state = of-state.poisoned; layers = 0; mark = mark }

-- What is done to one record: the record, the words of its slot, and the answer.
pub record Deed : Type 0 where
  pub symbol : Symbol
  pub words : List ℕ
  pub answer : Answer

abbrev pub deed : Symbol → List ℕ → Answer → Deed
deed s ws a = record { symbol = s; words = ws; answer = a }

-- To a record that has the id. A put of a type is an update. "Put of poison: poisons, identifier kept". "Forward
-- declaration overwrites".
abbrev pub overwrites : Act → Symbol → List ℕ → ℕ → Bool → ℕ → ℕ → List ℕ → Deed
overwrites act.put_poison s ws id authority place mark offered =
    deed (poisoned s.id s.authority s.place mark) ws (accepted effect.overwritten)
overwrites act.put_type s ws id authority place mark offered =
    deed (updated s ws id authority place offered).symbol (words_after s ws authority offered) (updated s ws id authority place offered).answer
overwrites act.forward_poison s ws id authority place mark offered =
    deed (poisoned id authority place mark) ws (accepted effect.overwritten)
overwrites act.forward_type s ws id authority place mark offered =
    deed (typed id authority place offered) (written offered ws) (accepted effect.overwritten)

-- A record that is made anew, and its words: of a type, or of poison.
abbrev pub filled : Act → ℕ → Bool → ℕ → ℕ → List ℕ → Symbol
filled a id authority place mark offered = cond (offers_type a) (typed id authority place offered) (poisoned id authority place mark)

abbrev pub filled_words : Act → List ℕ → List ℕ → List ℕ
filled_words a offered ws = cond (offers_type a) (written offered ws) ws
