use Rattle.std.proofs.Common.{◌≡◌, Ok, Err, Result, IfErr, MatchResult, sym, ◌∙◌, subst, rules}
use Rattle.std.specs.Result.{IsErrAnd}
use Rattle.std.proofs.lemmas.Result.{err_from_is_err_and}
use Rattle.key_pages.proofs.Opens.{never_both, not_outside, decided, refuses_malformed, refuses_outside}
use Rattle.key_pages.specs.Meaning.{Means}
use Rattle.key_pages.specs.Coming.{runs_to_come}
use Rattle.key_pages.proofs.reader.KeyPage.open.Goals as goal

pub returns-then-count-gt-MAX_PAGE_VALUES-clause-decided : goal.returns-then-count-gt-MAX_PAGE_VALUES-clause-decided
returns-then-count-gt-MAX_PAGE_VALUES-clause-decided c = decided c.args.page.now c.args.count

pub returns-in_err-runs-clause-complete : goal.returns-in_err-runs-clause-complete
returns-in_err-runs-clause-complete c = search (rules, never_both)

-- an error that `map_err` made is made of an error before
mapped : {T E D : Type 0} (P : E → Type 0) (Q : E → D → Type 0) (r : Result T E) (s : Result T D) (d : D) → s ≡ Err d → IfErr r P
    → MatchResult r (λ x. s ≡ Ok x) (λ e. IsErrAnd s (Q e)) → (e : E) × P e × Q e d
mapped P Q (Ok x) s d is h m = let z : Ok x ≡ Err d = sym m ∙ is in cc
mapped P Q (Err e) s d is h m = (e, h, subst (λ t. IsErrAnd t (Q e)) is m)

pub returns-in_err-runs-clause-rejected : goal.returns-in_err-runs-clause-rejected
returns-in_err-runs-clause-rejected c =
    let p = err_from_is_err_and c.from_residual.result c.from_residual.ensures.1 in
    let q = mapped _ _ c.of_page.result c.map_err.result _ c.in_err-runs.was c.of_page.ensures.malformed c.map_err.ensures.cases in
    rw (p.1, p.2) (refuses_malformed _ _ _ _ c.if-count-gt-MAX_PAGE_VALUES.false c.if-entries-gt-MAX_ENTRIES.false q.0 q.1 (search rules))

pub returns-in_err-runs-clause-decided : goal.returns-in_err-runs-clause-decided
returns-in_err-runs-clause-decided c = decided c.args.page.now c.args.count

opened : (c : goal.After-new-in-Some) → Means c.args.page.now c.args.count c.in_ok-runs.runs.width.bits (runs_to_come c.in_ok-runs.runs)
opened c = search rules

pub returns-in-Some-clause-complete : goal.returns-in-Some-clause-complete
returns-in-Some-clause-complete c = λ w runs a. absurd (not_outside _ _ _ _ _ _ _ _ _ (opened c) c.start.ensures.keys c.in-Some.ensures.first a)

pub returns-in-Some-clause-rejected : goal.returns-in-Some-clause-rejected
returns-in-Some-clause-rejected c =
    refuses_outside _ _ _ _ c.if-count-gt-MAX_PAGE_VALUES.false c.if-entries-gt-MAX_ENTRIES.false _ _ _ _ (opened c)
    c.start.ensures.keys c.in-Some.ensures.first c.new-in-Some.ensures

pub returns-in-Some-clause-decided : goal.returns-in-Some-clause-decided
returns-in-Some-clause-decided c = decided c.args.page.now c.args.count

pub returns-clause-decided : goal.returns-clause-decided
returns-clause-decided c = decided c.args.page.now c.args.count
