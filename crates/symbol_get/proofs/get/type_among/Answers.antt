use Rattle.std.proofs.Common.{arith}
use Rattle.std.proofs.lemmas.Grind.{common_steps}
use Rattle.symbol_get.proofs.Looking.{no_type, type_there}
use Rattle.symbol_get.proofs.get.type_among.Goals as goal

pub returns-in-Ok-Typed : goal.returns-in-Ok-Typed
returns-in-Ok-Typed c =
    type_there _ _ _ _ _ _ _ _ (rw c.in-Ok-Typed.field-0-is at c.in-Ok-Typed.ensures) c.row-s.ensures c.slot_words.ensures c.stored_words.ensures

pub returns-in-Ok-Absent : goal.returns-in-Ok-Absent
returns-in-Ok-Absent c = no_type _ _ _ _ c.look.result c.look.ensures (λ k q. grind (arith, common_steps))
