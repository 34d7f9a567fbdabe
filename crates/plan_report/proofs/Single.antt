-- Each public contract allows one outcome: any two that it allows of the same arguments coincide, in the result and in what
-- was lent.
-- Assumes nothing.
use mathlib.Core.Path.{◌≡◌, sym, ◌∙◌}
use contract.Lifetimes.{Lfts}
use denote.Triple.Clauses.{AtExit}
use borrow.Fn.Kinds.{Dens, res_t, ended_of}
use Rattle.std.specs.Prelude.{Result, Ok, Err}
use Rattle.type_layers.specs.declared.answers.Refused.{Refused}
use Rattle.type_layers.proofs.Apart.{result-apart}
use Rattle.type_layers.proofs.Single.{Single}
use Rattle.plan_report.specs.declared.report.Report.{Report}
use Rattle.plan_report.specs.Report.{Reports}
use Rattle.plan_report.proofs.report.ReportFromResultReportRefused.from.Kinds as report-kinds
use Rattle.plan_report.proofs.report.ReportFromResultReportRefused.from.Reads as report
use Rattle.plan_report.proofs.report.refuse.Kinds as refuse-kinds
use Rattle.plan_report.proofs.report.refuse.Reads as refuse
use Rattle.plan_report.proofs.delivery.deliver.Kinds as deliver-kinds
use Rattle.plan_report.proofs.delivery.deliver.Reads as deliver

pub refuse-single : Single 0 refuse-kinds.ps refuse-kinds.r refuse.Post
refuse-single κs a x y s t p q = p ∙ sym q

one_report : (x : Result Report Refused) (r s : Report) → Reports x r → Reports x s → r ≡ s
one_report (Ok y) r s p q = p ∙ sym q
one_report (Err e) r s p q = p ∙ sym q

pub report-single : Single 0 report-kinds.ps report-kinds.r report.Post
report-single κs a x y s t p q = one_report a.0 x y p q

pub deliver-single : (κs : Lfts 4) (a : Dens κs deliver-kinds.ps) (x y : (res_t deliver-kinds.r κs).Denot) (s t : AtExit (ended_of 4 deliver-kinds.ps deliver-kinds.r) κs) →
    deliver.Post κs a x s → deliver.Post κs a y t →
    (x ≡ y) × (s.1.0.now ≡ t.1.0.now) × (s.1.1.0.now ≡ t.1.1.0.now)
deliver-single κs a x y s t p q = (result-apart x y (p.0 ∙ sym q.0), p.1.0 ∙ sym q.1.0, p.1.1 ∙ sym q.1.1)
