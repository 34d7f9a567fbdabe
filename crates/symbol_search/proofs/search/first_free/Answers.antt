use native.Mathlib.Omega.{arith}
use lib.Dec.{eqb}
use Rattle.std.proofs.Common.{rules, tests}
use Rattle.std.proofs.lemmas.Iterator.{YieldsList-from_slice}
use Rattle.std.proofs.lemmas.Iterator.Search.{position_from_yields_List}
use Rattle.symbol_search.proofs.Searching.{free_found}
use Rattle.symbol_search.proofs.search.first_free.Goals as goal

pub returns : goal.returns
returns c =
    free_found _ _ c.if-count-gt-RECORDS.false (omega arith) _
    (position_from_yields_List (λ s. eqb s 0) _ _ c.position.result c.position.ensures.ran (YieldsList-from_slice _ c.iter.ensures.rest) (λ x b q k. search (rules, tests)))
