-- The lines of a request, and the text that they make. Assumes nothing.
use Rattle.std.proofs.Common.{◌≡◌, ℕ, ◌^◌, ◌<◌, List, [], ◌∷◌, ◌++◌, length, Some, None, codes, decimal, Option, MatchOption, ◌≢◌, sym, refl, ap, ◌∙◌, inl, inr, arith}
use denote.Ref.{Bor}
use Rattle.std.proofs.ByRecursion.{All-append}
use Rattle.std.proofs.lemmas.Fmt.{decimal_injective}
use Rattle.std.proofs.lemmas.List.{append_assoc, append_cancel_left, append_cancel_right, length-append}
use Rattle.page_text.specs.Lines.{before, behind}
use Rattle.page_text.specs.Pages.{Bytes, hex, page_line, entries_line, request_text, PageLine, IsPage, EntriesLine, IsEntries}
use Rattle.page_text.specs.Requests.{Says, first_line, second_line, past_lines}
use Rattle.page_text.proofs.Splits.{Lacks, before_at, behind_at, before_all, behind_none, cuts, joined}
use Rattle.page_text.proofs.Numerals.{Number, lacks_decimal}
use Rattle.page_text.proofs.Hexes.{same_hex, lacks_hex}

-- what follows a front, if the line has it
abbrev pub Stripped : List ℕ → List ℕ → Option (Bor (List ℕ)) → Type 0
Stripped line front o = MatchOption o ((rest : List ℕ) → line ≢ front ++ rest) (λ rest. line ≡ front ++ rest.now)

-- the entries line, by what follows its first word
pub entries_by : (line : List ℕ) (o : Option (Bor (List ℕ))) (r : Option ℕ) → Stripped line (codes "entries ") o → MatchOption o (r ≡ None) (λ word. Number word.now r) → MatchOption r (IsEntries line → ⊥) (λ m. EntriesLine line m)
unfolding entries_line
entries_by line None r none e = rw e (λ is. none _ is.1.text)
entries_by line (Some word) None e h = λ is. h is.0 is.1.entries (append_cancel_left (codes "entries ") word.now (decimal is.0) (sym e ∙ is.1.text))
entries_by line (Some word) (Some m) e h = record { entries = h.0; text = e ∙ ap (λ t. codes "entries " ++ t) h.1 }

pub no_first_word : (line : List ℕ) → ((rest : List ℕ) → line ≢ codes "page " ++ rest) → IsPage line → ⊥
unfolding page_line
no_first_word line none (e, (n, bs, p)) = none _ p.text

-- what follows a page line's first word: two words that end at a space, and the rest
pub record Parts (words : List ℕ) (e n : ℕ) (bs : List ℕ) : Type 0 where
  pub encoding : before 32 words ≡ decimal e
  pub count : before 32 (behind 32 words) ≡ decimal n
  pub word : behind 32 (behind 32 words) ≡ codes ":" ++ hex bs

pub parts : (line words : List ℕ) (e n : ℕ) (bs : List ℕ) → line ≡ codes "page " ++ words → PageLine line e n bs → Parts words e n bs
unfolding page_line
parts line words e n bs front p =
    let whole : words ≡ decimal e ++ (32 ∷ (decimal n ++ (32 ∷ (58 ∷ hex bs)))) = append_cancel_left (codes "page ") words _ (sym front ∙ p.text) in
    let lacks-e : Lacks 32 (decimal e) = lacks_decimal 32 e (λ i. omega (arith, i.0)) p.encoding in
    let lacks-n : Lacks 32 (decimal n) = lacks_decimal 32 n (λ i. omega (arith, i.0)) p.count in
    let rest : behind 32 words ≡ decimal n ++ (32 ∷ (58 ∷ hex bs)) = ap (behind 32) whole ∙ behind_at 32 (decimal e) _ lacks-e in
    record {
      encoding = ap (before 32) whole ∙ before_at 32 (decimal e) _ lacks-e;
      count = ap (before 32) rest ∙ before_at 32 (decimal n) _ lacks-n;
      word = ap (behind 32) rest ∙ behind_at 32 (decimal n) _ lacks-n;
    }

pub whole : (line words : List ℕ) (e n : ℕ) (bs : List ℕ) → line ≡ codes "page " ++ words → Parts words e n bs → line ≡ page_line e n bs
unfolding page_line
whole line words e n bs front p =
    let rest = joined 32 (behind 32 words) (decimal n) (58 ∷ hex bs) p.count p.word (λ z. omega (arith, ap length z)) in
    let all = joined 32 words (decimal e) _ p.encoding rest (λ z. omega (arith, ap length z, length-append (decimal n) (32 ∷ (58 ∷ hex bs)))) in
    front ∙ ap (λ t. codes "page " ++ t) all

-- no page line has these words
pub no_parts : (line words : List ℕ) → line ≡ codes "page " ++ words → ((e n : ℕ) (bs : List ℕ) → e < 2 ^ 64 → n < 2 ^ 64 → Bytes bs → Parts words e n bs → ⊥) → IsPage line → ⊥
no_parts line words front none (e, (n, bs, p)) = none e n bs p.encoding p.count p.bytes (parts line words e n bs front p)

-- a page line has one reading
pub same_page : (line : List ℕ) (e n : ℕ) (bs : List ℕ) (e' n' : ℕ) (bs' : List ℕ) → PageLine line e n bs → PageLine line e' n' bs' → (e ≡ e') × (n ≡ n') × (bs ≡ bs')
unfolding page_line
same_page line e n bs e' n' bs' p q =
    let a = parts line _ e n bs p.text p in
    let b = parts line _ e' n' bs' p.text q in (
      decimal_injective e e' p.encoding q.encoding (sym a.encoding ∙ b.encoding),
      decimal_injective n n' p.count q.count (sym a.count ∙ b.count),
      same_hex bs bs' p.bytes q.bytes (append_cancel_left (codes ":") (hex bs) (hex bs') (sym a.word ∙ b.word)),
    )

pub same_entries : (line : List ℕ) (m m' : ℕ) → EntriesLine line m → EntriesLine line m' → m ≡ m'
unfolding entries_line
same_entries line m m' p q = decimal_injective m m' p.entries q.entries (append_cancel_left (codes "entries ") (decimal m) (decimal m') (sym p.text ∙ q.text))

-- neither line holds a line feed
lacks_page : (e n : ℕ) (bs : List ℕ) → e < 2 ^ 64 → n < 2 ^ 64 → Lacks 10 (page_line e n bs)
unfolding page_line
lacks_page e n bs l k =
    All-append _ (codes "page ") _ (omega arith)
    (All-append _ (decimal e) _ (lacks_decimal 10 e (λ i. omega (arith, i.0)) l)
    (All-append _ (codes " ") _ (omega arith)
    (All-append _ (decimal n) _ (lacks_decimal 10 n (λ i. omega (arith, i.0)) k)
    (All-append _ (codes " :") _ (omega arith) (lacks_hex 10 bs (omega arith))))))

lacks_entries : (m : ℕ) → m < 2 ^ 64 → Lacks 10 (entries_line m)
unfolding entries_line
lacks_entries m l = All-append _ (codes "entries ") _ (omega arith) (lacks_decimal 10 m (λ i. omega (arith, i.0)) l)

-- a request's text has its two lines, and nothing behind them
pub record Lines (text : List ℕ) (n : ℕ) (bs : List ℕ) (m : ℕ) : Type 0 where
  pub first : PageLine (first_line text) 8 n bs
  pub second : EntriesLine (second_line text) m
  pub last : past_lines text ≡ []

pub lines_of : (text : List ℕ) (n : ℕ) (bs : List ℕ) (m : ℕ) → Says text n bs m → Lines text n bs m
unfolding request_text
lines_of text n bs m s =
    let page = page_line 8 n bs in
    let entries = entries_line m in
    let lacks-page : Lacks 10 page = lacks_page 8 n bs (omega arith) s.count in
    let lacks-entries : Lacks 10 entries = lacks_entries m s.entries in
    let made : (rest : List ℕ) → text ≡ page ++ (10 ∷ rest) → before 10 rest ≡ entries → behind 10 rest ≡ [] → Lines text n bs m =
    λ rest whole front back.
    let b : behind 10 text ≡ rest = ap (behind 10) whole ∙ behind_at 10 page rest lacks-page in
    record {
      first = record { encoding = omega arith; count = s.count; bytes = s.bytes; text = ap (before 10) whole ∙ before_at 10 page rest lacks-page };
      second = record { entries = s.entries; text = ap (before 10) b ∙ front };
      last = ap (behind 10) b ∙ back;
    } in
    elim s.whole [
      | inl e ↦ made (entries ++ (10 ∷ [])) e (before_at 10 entries [] lacks-entries) (behind_at 10 entries [] lacks-entries)
      | inr e ↦
          made entries (append_cancel_right text (page ++ (10 ∷ entries)) (10 ∷ []) (e ∙ sym (append_assoc page (10 ∷ entries) (10 ∷ []))))
          (before_all 10 entries lacks-entries) (behind_none 10 entries lacks-entries)
    ]

pub says_of : (text : List ℕ) (n : ℕ) (bs : List ℕ) (m : ℕ) → Lines text n bs m → Says text n bs m
unfolding request_text entries_line before
says_of text n bs m l =
    let page = page_line 8 n bs in
    let e : text ≡ page ++ (10 ∷ behind 10 text) = joined 10 text page _ l.first.text refl (λ z. omega (arith, ap length (sym l.second.text ∙ ap (before 10) z))) in
    record {
      count = l.first.count;
      bytes = l.first.bytes;
      entries = l.second.entries;
      whole = elim (cuts 10 (behind 10 text)) [
        | inl w ↦ inl (e ∙ ap (λ t. page ++ (10 ∷ t)) (w ∙ ap (λ t. t ++ (10 ∷ past_lines text)) l.second.text ∙ ap (λ t. entries_line m ++ (10 ∷ t)) l.last))
        | inr w ↦ inr (ap (λ t. t ++ (10 ∷ [])) (e ∙ ap (λ t. page ++ (10 ∷ t)) (w.0 ∙ l.second.text)) ∙ append_assoc page (10 ∷ entries_line m) (10 ∷ []))
      ];
    }
