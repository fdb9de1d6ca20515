use Rattle.std.proofs.Common.{subst}
use Rattle.std.proofs.lemmas.Result.{IfOk-weaker}
use Rattle.key_pages.specs.Opening.{Refused}
use Rattle.page_report.specs.Reports.{rejects}
use Rattle.page_report.proofs.pages.page_report.Goals as goal

pub returns-in-Err : goal.returns-in-Err
returns-in-Err c =
    let q = c.args.request.now in
    IfOk-weaker c.to_string.result _ _ (λ s e. rejects c.in-Err.fault (subst (λ bytes. Refused bytes q.count q.entries c.in-Err.fault) c.deref.ensures.value c.in-Err.ensures.rejected) e) c.to_string.ensures.ok
