use Rattle.std.proofs.Common.{Err, subst}
use Rattle.std.proofs.lemmas.Result.{IfOk-weaker}
use Rattle.page_text.specs.Requests.{Rejects}
use Rattle.page_report.specs.Reports.{complains, answers}
use Rattle.page_report.proofs.report.Goals as goal

pub returns-in-Ok : goal.returns-in-Ok
returns-in-Ok c = record {
  says = IfOk-weaker c.page_report.result _ _ (λ s t. answers c.in-Ok.request.count _ c.in-Ok.request.entries c.in-Ok.ensures.accepted.0 c.in-Ok.ensures.accepted.1 t) c.page_report.ensures;
}

pub returns-in-Err-Wrong : goal.returns-in-Err-Wrong
returns-in-Err-Wrong c = record {
  says = IfOk-weaker c.format.result _ _ (λ s e. complains c.in-Err-Wrong.wrong.line c.in-Err-Wrong.wrong.what (subst (λ r. Rejects c.args.input.now (Err r)) c.in-Err-Wrong.field-0-is c.in-Err-Wrong.ensures.rejected) e) c.format.ensures.ok;
}
