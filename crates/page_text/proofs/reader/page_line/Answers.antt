use Rattle.std.proofs.Common.{◌≡◌, ◌++◌, codes, sym, ap, ◌∙◌}
use Rattle.std.proofs.lemmas.Bool.Decides.{Decides-eqb}
use Rattle.std.proofs.lemmas.List.{append_cancel_left}
use Rattle.std.proofs.lemmas.Option.{MatchOption-at_none, MatchOption-at_some}
use Rattle.std.proofs.lemmas.Slice.Eq.{strip_prefix_is}
use Rattle.page_text.specs.Lines.{before, behind}
use Rattle.page_text.specs.Pages.{hex}
use Rattle.page_text.proofs.Parsed.{Stripped, whole, no_first_word, no_parts}
use Rattle.page_text.proofs.Results.{IfErrRefused}
use Rattle.page_text.proofs.reader.page_line.Goals as goal
use Rattle.page_text.proofs.reader.page_line.Goals.{After-strip_prefix, In_ok-words, After-split-2, After-strip_prefix-2, In_ok-digits}

first_word : (c : After-strip_prefix) → Stripped c.args.line.now (codes "page ") c.strip_prefix.result
first_word c = strip_prefix_is Decides-eqb c.args.line.now (codes "page ") c.strip_prefix.result c.strip_prefix.ensures.cases

words_is : (c : In_ok-words) → c.args.line.now ≡ codes "page " ++ c.in_ok-words.words.now
words_is c = MatchOption-at_some _ _ _ c.in_ok-words.ensures.ok_part (first_word (goal.at.In_ok-words c).After-strip_prefix)

count_is : (c : After-split-2) → c.split-2.result.0.now ≡ before 32 (behind 32 c.in_ok-words.words.now)
count_is c = c.split-2.ensures.front ∙ ap (before 32) c.split.ensures.back

word_is : (c : After-split-2) → c.split-2.result.1.now ≡ behind 32 (behind 32 c.in_ok-words.words.now)
word_is c = c.split-2.ensures.back ∙ ap (behind 32) c.split.ensures.back

colon : (c : After-strip_prefix-2) → Stripped c.split-2.result.1.now (codes ":") c.strip_prefix-2.result
colon c = strip_prefix_is Decides-eqb c.split-2.result.1.now (codes ":") c.strip_prefix-2.result c.strip_prefix-2.ensures.cases

digits_is : (c : In_ok-digits) → c.split-2.result.1.now ≡ codes ":" ++ c.in_ok-digits.digits.now
digits_is c = MatchOption-at_some _ _ _ c.in_ok-digits.ensures.ok_part (colon (goal.at.In_ok-digits c).After-strip_prefix-2)

pub returns-in_err-words-clause-refuses : goal.returns-in_err-words-clause-refuses
returns-in_err-words-clause-refuses c =
    let none = MatchOption-at_none _ _ c.in_err-words.ensures.ok_part (first_word (goal.at.returns-in_err-words-clause-refuses c).After-strip_prefix) in
    IfErrRefused c.from_residual.result c.strip_prefix.result c.in_err-words.field-0.0 _ _ c.from_residual.ensures.1 c.in_err-words.ensures.value
    (no_first_word c.args.line.now none)

pub returns-in_err-digits-clause-refuses : goal.returns-in_err-digits-clause-refuses
returns-in_err-digits-clause-refuses c =
    let at = goal.at.returns-in_err-digits-clause-refuses c in
    let none = MatchOption-at_none _ _ c.in_err-digits.ensures.ok_part (colon at.After-strip_prefix-2) in
    IfErrRefused c.from_residual-in_err-digits.result c.strip_prefix-2.result c.in_err-digits.field-0.0 _ _ c.from_residual-in_err-digits.ensures.1 c.in_err-digits.ensures.value
    (no_parts _ _ (words_is at.In_ok-words) (λ e n bs small short bytes p. none _ (word_is at.After-split-2 ∙ p.word)))

pub returns-in_err-ok_or-clause-refuses : goal.returns-in_err-ok_or-clause-refuses
returns-in_err-ok_or-clause-refuses c =
    let none = MatchOption-at_none _ _ c.in_err-ok_or.ensures.ok_part c.number.ensures.reads in
    IfErrRefused c.from_residual-in_err-ok_or.result c.number.result c.in_err-ok_or.field-0.0 _ _ c.from_residual-in_err-ok_or.ensures.1 c.in_err-ok_or.ensures.value
    (no_parts _ _ (words_is (goal.at.returns-in_err-ok_or-clause-refuses c).In_ok-words) (λ e n bs small short bytes p. none e small (c.split.ensures.front ∙ p.encoding)))

pub returns-in_err-ok_or-2-clause-refuses : goal.returns-in_err-ok_or-2-clause-refuses
returns-in_err-ok_or-2-clause-refuses c =
    let at = goal.at.returns-in_err-ok_or-2-clause-refuses c in
    let none = MatchOption-at_none _ _ c.in_err-ok_or-2.ensures.ok_part c.number-2.ensures.reads in
    IfErrRefused c.from_residual-in_err-ok_or-2.result c.number-2.result c.in_err-ok_or-2.field-0.0 _ _ c.from_residual-in_err-ok_or-2.ensures.1 c.in_err-ok_or-2.ensures.value
    (no_parts _ _ (words_is at.In_ok-words) (λ e n bs small short bytes p. none n short (count_is at.After-split-2 ∙ p.count)))

pub returns-in_err-ok_or-3-clause-refuses : goal.returns-in_err-ok_or-3-clause-refuses
returns-in_err-ok_or-3-clause-refuses c =
    let at = goal.at.returns-in_err-ok_or-3-clause-refuses c in
    let none = MatchOption-at_none _ _ c.in_err-ok_or-3.ensures.ok_part c.in_ok-hex_bytes.ensures.reads in
    IfErrRefused c.from_residual-in_err-ok_or-3.result c.in_ok-hex_bytes.field-0 c.in_err-ok_or-3.field-0.0 _ _ c.from_residual-in_err-ok_or-3.ensures.1 c.in_err-ok_or-3.ensures.value
    (no_parts _ _ (words_is at.In_ok-words)
    (λ e n bs small short bytes p. none bs bytes (append_cancel_left (codes ":") c.in_ok-digits.digits.now (hex bs) (sym (digits_is at.In_ok-digits) ∙ word_is at.After-split-2 ∙ p.word))))

pub returns-clause-reads : goal.returns-clause-reads
returns-clause-reads c =
    let at = goal.at.returns-clause-reads c in
    let encoding = MatchOption-at_some _ _ _ c.in_ok-ok_or.ensures.ok_part c.number.ensures.reads in
    let count = MatchOption-at_some _ _ _ c.in_ok-ok_or-2.ensures.ok_part c.number-2.ensures.reads in
    let bytes = MatchOption-at_some _ _ _ c.in_ok-ok_or-3.ensures.ok_part c.in_ok-hex_bytes.ensures.reads in
    record {
      encoding = encoding.0;
      count = count.0;
      bytes = bytes.0;
      text = whole _ _ _ _ _ (words_is at.In_ok-words) (record {
        encoding = sym c.split.ensures.front ∙ encoding.1;
        count = sym (count_is at.After-split-2) ∙ count.1;
        word = sym (word_is at.After-split-2) ∙ digits_is at.In_ok-digits ∙ ap (λ t. codes ":" ++ t) bytes.1;
      });
    }
