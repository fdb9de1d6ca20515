use Rattle.std.proofs.Common.{◌≡◌, length, vec_items, refl, sym, ap, ◌∙◌, rules, arith}
use Rattle.std.proofs.lemmas.Bool.{eqb-true, eqb-false}
use Rattle.std.proofs.lemmas.List.{nil_from_length}
use Rattle.page_text.specs.declared.complaint.Complaint.TheVariants.{NotPageLine, OtherEncoding, NotEntriesLine, LineTooMany}
use Rattle.page_text.specs.Lines.{before, behind}
use Rattle.page_text.specs.Pages.{PageLine}
use Rattle.page_text.specs.Requests.{first_line, second_line, past_lines}
use Rattle.page_text.proofs.Faults.{AnswersFrom, AnswersFrom_error, AnswersFrom_complaint, AnswersAsked, not_eight}
use Rattle.page_text.proofs.reader.read_request.Goals as goal
use Rattle.page_text.proofs.reader.read_request.Goals.{After-split-2, In_ok-page, Else-ne}

-- the page that was read stands in the first line
page_is : (c : In_ok-page) → PageLine (first_line c.args.text.now) c.in_ok-page.page.encoding c.in_ok-page.page.count (vec_items c.in_ok-page.page.bytes)
page_is c = rw c.split.ensures.front at c.in_ok-page.ensures.reads

eight : (c : Else-ne) → PageLine (first_line c.args.text.now) 8 c.in_ok-page.page.count (vec_items c.in_ok-page.page.bytes)
eight c =
    let same : c.in_ok-page.page.encoding ≡ 8 = search rules in
    rw same at (page_is (goal.at.Else-ne c).In_ok-page)

second_is : (c : After-split-2) → c.split-2.result.0.now ≡ second_line c.args.text.now
second_is c = c.split-2.ensures.front ∙ ap (before 10) c.split.ensures.back

past_is : (c : After-split-2) → c.split-2.result.1.now ≡ past_lines c.args.text.now
past_is c = c.split-2.ensures.back ∙ ap (behind 10) c.split.ensures.back

pub returns-in_err-page-clause-complete : goal.returns-in_err-page-clause-complete
returns-in_err-page-clause-complete c =
    (AnswersFrom_error c.args.text.now c.from_residual.result c.in_err-page.field-0.0 NotPageLine _ c.from_residual.ensures.1 c.in_err-page.ensures.refuses
    (λ none. (refl, omega arith, rw c.split.ensures.front at none))).complete

pub returns-then-ne : goal.returns-then-ne
returns-then-ne c =
    let other = not_eight _ _ c.in_ok-page.page.encoding c.try_from.result c.try_from.ensures (search rules) c.if-ne.ensures in
    let a = AnswersFrom c.args.text.now c.from-then-ne.result OtherEncoding c.from-then-ne.ensures
    (refl, omega arith, (c.in_ok-page.page.encoding, other, (_, _, page_is (goal.at.returns-then-ne c).In_ok-page))) in
    record { accepted = a.accepted; complete = a.complete; rejected = a.rejected; exact = a.exact }

pub returns-in_err-entries : goal.returns-in_err-entries
returns-in_err-entries c =
    let at = goal.at.returns-in_err-entries c in
    let a = AnswersFrom_complaint c.args.text.now c.from_residual-in_err-entries.result c.in_err-entries.field-0.0 NotEntriesLine c.from_residual-in_err-entries.ensures.1
    c.in_err-entries.ensures.reads.0 (refl, omega arith, (_, _, eight at.Else-ne), rw (second_is at.After-split-2) at c.in_err-entries.ensures.reads.1) in
    record { accepted = a.accepted; complete = a.complete; rejected = a.rejected; exact = a.exact }

pub returns-then-not-is_empty : goal.returns-then-not-is_empty
returns-then-not-is_empty c =
    let at = goal.at.returns-then-not-is_empty c in
    let some = eqb-false (length c.split-2.result.1.now) 0 (sym c.if-not-is_empty.ensures) in
    let a = AnswersFrom c.args.text.now c.from-then-not-is_empty.result LineTooMany c.from-then-not-is_empty.ensures
    (refl, omega arith, (_, _, eight at.Else-ne), (c.in_ok-entries.entries, rw (second_is at.After-split-2) at c.in_ok-entries.ensures.reads), λ z. some (ap length (past_is at.After-split-2 ∙ z))) in
    record { accepted = a.accepted; complete = a.complete; rejected = a.rejected; exact = a.exact }

pub returns : goal.returns
returns c =
    let at = goal.at.returns c in
    let last = sym (past_is at.After-split-2) ∙ nil_from_length c.split-2.result.1.now (eqb-true (length c.split-2.result.1.now) 0 (sym c.if-not-is_empty.ensures)) in
    let a = AnswersAsked c.args.text.now (record { count = c.in_ok-page.page.count; bytes = c.in_ok-page.page.bytes; entries = c.in_ok-entries.entries }) (omega arith)
    (record { first = eight at.Else-ne; second = rw (second_is at.After-split-2) at c.in_ok-entries.ensures.reads; last = last }) in
    record { accepted = a.accepted; complete = a.complete; rejected = a.rejected; exact = a.exact }
