use Rattle.symbol_members.proofs.Storing.{not_there, not_typed, is_typed}
use Rattle.symbol_members.proofs.members.member.Goals as goal
use Rattle.symbol_members.proofs.members.member.Goals.{in_default-via-in-Some+else-columns-k-eq-TYPED, in_default-via-in_default}

pub returns-in-Some : goal.returns-in-Some
returns-in-Some c = is_typed _ _ _ _ _ c.in-Some.ensures _ _ c.if-columns-k-eq-TYPED.true c.slot_words.ensures c.stored_words.ensures

pub returns-in_default : goal.returns-in_default
returns-in_default c =
    elim c.in_default.branch [
      | in_default-via-in-Some+else-columns-k-eq-TYPED w ↦ not_typed _ _ _ _ _ w.in-Some.ensures w.if-columns-k-eq-TYPED.false
      | in_default-via-in_default w ↦ not_there _ _ _ _ w.in_default.ensures
    ]
