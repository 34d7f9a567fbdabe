use borrow.Author.Rules.{rules}
use Rattle.symbol_order.proofs.Onward.{ends, breaks, goes_on, still_full, noted_more}
use Rattle.symbol_order.proofs.order.in_order.Goals as goal

pub returns-then-not-stands_after : goal.returns-then-not-stands_after
returns-then-not-stands_after c = search breaks

pub loop-k-preserved : goal.loop-k-preserved
loop-k-preserved c = (search (rules, still_full), search noted_more, search goes_on)

pub returns : goal.returns
returns c = search ends
