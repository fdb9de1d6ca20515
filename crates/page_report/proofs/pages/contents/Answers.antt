use Rattle.std.proofs.Common.{◌≡◌, vec_items, string_bytes, Decides, refl, ap, ◌∙◌, subst, IfOk}
use Rattle.std.proofs.lemmas.Iterator.{items_from_collect}
use Rattle.std.proofs.lemmas.Iterator.Consumers.{YieldsList-from_first}
use Rattle.key_pages.specs.Coming.{runs_to_come, keys_to_come}
use Rattle.page_report.specs.Lines.{contents_text}
use Rattle.page_report.specs.Reports.{Makes}
use Rattle.page_report.proofs.Telling.{tells_page}
use Rattle.page_report.proofs.pages.contents.Goals as goal

pub returns : goal.returns
returns c =
    let keys = vec_items c.in_ok-keys.keys in
    let used = vec_items c.in_ok-used.used in
    let collected = items_from_collect c.collect.result c.collect.ensures.ran (YieldsList-from_first (λ x. x) keys_to_come {s = c.keys.result} _ refl) in
    let all : vec_items c.in_ok-keys.keys ≡ keys_to_come c.keys.result = subst (λ r. IfOk r (λ w. vec_items w ≡ keys_to_come c.keys.result)) c.in_ok-keys.was collected in
    let appended : string_bytes c.write.new.self ≡ contents_text (string_bytes c.in_ok-text.text) (vec_items c.in_ok-keys.keys) (vec_items c.in_ok-used.used) c.in_ok-same.same = c.in_ok-write.ensures.bytes in
    λ count o.
    tells_page c.args.bytes.now count c.args.entries c.args.page.now keys used (runs_to_come c.runs.result) c.key_width.result c.in_ok-same.same _ o
    (λ w runs m. all ∙ c.keys.ensures.keys w runs m)
    (λ w runs a. c.in_ok-used.ensures w runs a)
    (λ w runs m. c.runs.ensures.runs w runs m)
    c.key_width.ensures.least
    (subst (λ t. Decides c.in_ok-same.same (Makes c.key_width.result t c.args.bytes.now)) c.deref.ensures.value c.in_ok-same.ensures)
    (appended ∙ ap (λ t. contents_text t keys used c.in_ok-same.same) c.in_ok-text.ensures)
