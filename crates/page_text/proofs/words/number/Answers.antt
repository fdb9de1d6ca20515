use Rattle.std.proofs.Common.{sym, arith}
use borrow.Author.Tests.{ltb-true}
use Rattle.std.proofs.lemmas.Option.{MatchOption-at_none, MatchOption-at_some}
use Rattle.page_text.proofs.Numerals.{IsPlain, IsPlainEmpty, IsPlainDecimal, IsUtf8From_decimal, NumberParsed}
use Rattle.page_text.proofs.Results.{MatchOptionResult_ok}
use Rattle.page_text.proofs.words.number.Goals as goal
use Rattle.page_text.proofs.words.number.Goals.{in_default-via-then-word-lt1, in_default-via-else-word-lt1+then-word-lt2+in_default-1, in_default-via-else-word-lt1+else-word-lt2+in_default-1}

pub returns-in-43 : goal.returns-in-43
returns-in-43 c = record { reads = λ n l e. (IsPlainDecimal c.args.word.now n l e).no_plus (omega arith) }

pub returns-in-43-2 : goal.returns-in-43-2
returns-in-43-2 c = record { reads = λ n l e. (IsPlainDecimal c.args.word.now n l e).no_plus (omega arith) }

pub returns-in-43-3 : goal.returns-in-43-3
returns-in-43-3 c = record { reads = λ n l e. omega (arith, (IsPlainDecimal c.args.word.now n l e).no_zero (omega arith)) }

pub returns-in_err-ok-in_default : goal.returns-in_err-ok-in_default
returns-in_err-ok-in_default c =
    let bad = MatchOption-at_none _ _ (sym c.in_err-ok-in_default.ensures.value) (MatchOptionResult_ok _ _ c.from_utf8.result c.from_utf8.ensures.cases) in
    record { reads = rw c.from_residual.ensures (λ n l e. bad.1.0 (IsUtf8From_decimal c.args.word.now n l e)) }

pub returns-in_ok-ok-in_default : goal.returns-in_ok-ok-in_default
returns-in_ok-ok-in_default c =
    let plain : IsPlain c.args.word.now = elim c.in_default.branch [
      | in_default-via-then-word-lt1 w ↦ IsPlainEmpty c.args.word.now (omega (arith, ltb-true))
      | in_default-via-else-word-lt1+then-word-lt2+in_default-1 w ↦ record { no_plus = λ e. omega arith; no_zero = λ e. omega (arith, ltb-true) }
      | in_default-via-else-word-lt1+else-word-lt2+in_default-1 w ↦ record { no_plus = λ e. omega arith; no_zero = λ e. omega arith }
    ] in
    let text = MatchOption-at_some _ _ _ (sym c.in_ok-ok-in_default.ensures.value) (MatchOptionResult_ok _ _ c.from_utf8.result c.from_utf8.ensures.cases) in
    record { reads = rw c.ok-in_default.ensures.value (NumberParsed _ c.args.word.now c.parse.result plain (rw text.0 at c.parse.ensures.value.0)) }
