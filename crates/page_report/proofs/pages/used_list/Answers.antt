use Rattle.std.proofs.Common.{◌≡◌, length, take, drop, sym, ap, ◌∙◌, subst, arith}
use Rattle.std.proofs.lemmas.List.{take_at}
use Rattle.key_pages.specs.Meaning.{keys_of}
use Rattle.page_report.specs.Reports.{Once}
use Rattle.page_report.proofs.Telling.{listed_once}
use Rattle.page_report.proofs.pages.used_list.Goals as goal

pub returns : goal.returns
returns c = λ w runs a.
    let l : length c.used_keys.new.used ≡ c.in_ok-list.list.len = c.used_keys.auto.used ∙ c.deref_mut.ensures.len in
    let f = take_at c.used_keys.new.used (drop (length c.used_keys.new.used) c.in_ok-list.list.items) c.in_ok-list.list.len l in
    let o = listed_once _ _ c.used_keys.result c.unwrap-number.result c.used_keys.new.used (c.used_keys.ensures.listed (omega (arith, c.deref_mut.ensures.len, c.in_ok-list.ensures.len)) w runs a) c.unwrap-number.ensures in
    subst (λ t. Once (keys_of w c.args.page.now.count runs) t) (sym (c.truncate.ensures.items ∙ ap (take c.unwrap-number.result) f)) o
