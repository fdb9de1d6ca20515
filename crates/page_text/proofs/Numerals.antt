-- A word is a number's decimal where `parse` takes it, and no `+` and no needless zero stands in front. Assumes nothing.
use Rattle.std.proofs.Common.{◌≡◌, ℕ, ◌^◌, ◌<◌, ◌≤◌, List, [], ◌∷◌, length, get_or, Ok, Err, IsUtf8, decimal, Result, Option, MatchOption, ◌≢◌, sym, ap, ◌∙◌, subst, ⊎_elim, arith}
use Rattle.std.specs.Result.{result_ok, OkIff}
use Rattle.std.specs.Str.Parse.{ParsesUnsigned, AllDigits, digits_value}
use Rattle.std.specs.Int.{IsInRange}
use Rattle.std.proofs.lemmas.Fmt.{decimal_is_IsNumeral, decimal_digit, decimal_nonempty, first_decimal, IsAscii-decimal, decimal-digits_value, parse-decimal}
use Rattle.std.proofs.lemmas.Str.Parse.{IsNumeralModel, numerals_by_value, tells_digits, parse_plain, not_in_digits, digit_from_value}
use Rattle.std.proofs.lemmas.Bool.{cases_eq}
use Rattle.std.proofs.lemmas.Str.{IsUtf8-from_ascii}
use Rattle.page_text.proofs.Splits.{Lacks}

own : IsNumeralModel (AllDigits 10) (digits_value 10)
own = numerals_by_value (AllDigits 10) tells_digits

-- the number that a word writes, if any
abbrev pub Number : List ℕ → Option ℕ → Type 0
Number word o = MatchOption o ((n : ℕ) → n < 2 ^ 64 → word ≢ decimal n) (λ n. (n < 2 ^ 64) × (word ≡ decimal n))

-- the front of a decimal
pub record IsPlain (word : List ℕ) : Type 0 where
  pub no_plus : get_or word 0 0 ≢ 43
  pub no_zero : get_or word 0 0 ≡ 48 → length word ≤ 1

pub IsPlainEmpty : (word : List ℕ) → length word < 1 → IsPlain word
IsPlainEmpty [] l = record { no_plus = λ e. omega arith; no_zero = λ e. omega arith }
IsPlainEmpty (b ∷ word) l = absurd (omega arith)

pub IsPlainDecimal : (word : List ℕ) (n : ℕ) → n < 2 ^ 64 → word ≡ decimal n → IsPlain word
IsPlainDecimal word n l e = subst IsPlain (sym e) (record {
  no_plus = not_in_digits own (decimal n) 43 (decimal_is_IsNumeral n l).0.1 (λ i. omega (arith, i.0)) 0 (decimal_nonempty n l);
  no_zero = λ z. ⊎_elim (λ e. omega (arith, ap length (ap decimal e ∙ decimal_digit 0 (omega arith)))) (λ some. omega (arith, z, first_decimal n (omega arith) l)) (cases_eq n 0);
})

pub NumberParsed : (E : Type 0) (word : List ℕ) (r : Result ℕ E) → IsPlain word → ParsesUnsigned 64 10 word r → Number word (result_ok r)
NumberParsed E word (Ok n) plain h =
    let p : OkIff {E = E} (Ok n) (AllDigits 10 word × (0 < length word) × (digits_value 10 word < 2 ^ 64)) (digits_value 10 word) = parse_plain own {E = E} 64 word (Ok n) h plain.no_plus in
    (omega (arith, p.0.2, p.1), sym (decimal-digits_value own word p.0.0 p.0.1 (λ z. omega (arith, plain.no_zero z, p.0.1)) p.0.2) ∙ ap decimal (sym p.1))
NumberParsed E word (Err e) plain h = λ n l same. cc (parse-decimal 64 n word (Err e) l l same h)

pub IsUtf8From_decimal : (word : List ℕ) (n : ℕ) → n < 2 ^ 64 → word ≡ decimal n → IsUtf8 word
IsUtf8From_decimal word n l e = subst IsUtf8 (sym e) (IsUtf8-from_ascii (decimal n) (IsAscii-decimal n l))

lacks_digits : (s : ℕ) → (IsInRange 48 57 s → ⊥) → (ds : List ℕ) → AllDigits 10 ds → Lacks s ds
lacks_digits s other [] d = tt
lacks_digits s other (c ∷ cs) d = ((λ e. other (subst (IsInRange 48 57) e (digit_from_value c d.0))), lacks_digits s other cs d.1)

-- only digits stand in a decimal
pub lacks_decimal : (s n : ℕ) → (IsInRange 48 57 s → ⊥) → n < 2 ^ 64 → Lacks s (decimal n)
lacks_decimal s n other l = lacks_digits s other (decimal n) (decimal_is_IsNumeral n l).0.1
