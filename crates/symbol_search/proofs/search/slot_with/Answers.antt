use native.Mathlib.Omega.{arith}
use Rattle.std.proofs.Common.{rules, tests}
use Rattle.std.proofs.lemmas.Iterator.{YieldsList-from_slice, YieldsList-from_zip}
use Rattle.std.proofs.lemmas.Iterator.Search.{position_from_yields_List}
use Rattle.symbol_search.proofs.Searching.{wanted, slot_found}
use Rattle.symbol_search.proofs.search.slot_with.Goals as goal

pub returns : goal.returns
returns c =
    slot_found _ _ c.if-count-gt-RECORDS.false (omega arith) _ _
    (position_from_yields_List (wanted c.args.wanted) c.position.new.self _ c.position.result c.position.ensures.ran
    (YieldsList-from_zip (YieldsList-from_slice _ cc) (YieldsList-from_slice _ c.zip.ensures.second.0)) (λ x b q k. search (rules, tests)))
