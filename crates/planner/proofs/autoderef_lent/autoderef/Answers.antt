-- What the plan of the gathered columns gives is what the plan of the records gives.
use mathlib.Core.Path.{◌≡◌, ap, subst, ◌∙◌}
use mathlib.Core.List.{List}
use Prim.Native.Nat.{ℕ}
use lib.ListN.{length}
use Rattle.type_layers.specs.Answer.{Answer}
use Rattle.symbol_columns.specs.declared.symbol.Symbol.{Symbol}
use Rattle.symbol_columns.specs.AsCoded.{read_from}
use Rattle.symbol_lent.specs.AsCoded.{gathered}
use Rattle.plan_report.specs.Plan.{Plan}
use Rattle.plan_report.specs.Report.{Hands}
use Rattle.planner.specs.Plans.{plan_answer}
use Rattle.planner.proofs.Asking.{plan-same}
use Rattle.planner.proofs.autoderef_lent.autoderef.Goals as goal

pub returns : goal.returns
returns c =
    let a = c.args in
    let columns : c.gather.new.flat ≡ gathered a.table.now = c.gather.ensures in
    let answer : List Symbol → Answer Plan =
    λ l. plan_answer l a.store.now a.known.now a.asked.now a.target.now a.level a.rounds (length a.steps.now) (length a.ty.now) in
    let same : answer (read_from c.gather.new.flat 0 (length a.table.now)) ≡ answer a.table.now =
    ap (λ (ws : List ℕ). answer (read_from ws 0 (length a.table.now))) columns
    ∙ plan-same a.store.now a.known.now a.asked.now a.target.now a.level a.rounds (length a.steps.now) (length a.ty.now) a.table.now in
    subst (λ (p : Answer Plan). Hands p c.plan_among.result a.steps.now c.plan_among.new.steps a.ty.now c.plan_among.new.ty) same c.plan_among.ensures
