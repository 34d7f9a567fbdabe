use Rattle.std.proofs.Common.{rules, tests}
use Rattle.std.proofs.lemmas.Iterator.{YieldsList-from_slice}
use Rattle.std.proofs.lemmas.Iterator.Search.{position_from_yields_List}
use Rattle.symbol_search.specs.Search.{has}
use Rattle.symbol_lent.proofs.Finding.{slot_found}
use Rattle.symbol_lent.proofs.search_lent.find_symbol.Goals as goal

pub returns : goal.returns
returns c =
    slot_found _ _ _
    (position_from_yields_List (has c.args.id) _ _ c.position.result c.position.ensures.ran (YieldsList-from_slice c.args.table.now cc) (λ x b q k. search (rules, tests)))
