-- Hex digits, two for each byte. Assumes nothing.
use Rattle.std.proofs.Common.{◌≡◌, ℕ, zero, suc, ◌+◌, ◌*◌, ◌/◌, ◌%◌, ◌<◌, ◌≤◌, List, [], ◌∷◌, ◌++◌, length, get_or, take, drop, set, length-set, sym, refl, ap, ◌∙◌, subst, arith}
use Rattle.std.specs.Simd.{first_chunks}
use Rattle.std.proofs.ByRecursion.{All-push}
use Rattle.std.proofs.lemmas.List.{append_assoc, take_more, take_more_set, get_or-take, get_or-drop}
use Rattle.std.specs.Str.{IsAscii, IsUtf8}
use Rattle.std.proofs.lemmas.Str.{IsUtf8-from_ascii}
use Rattle.std.proofs.lemmas.Str.Ascii.{IsAscii-nil, IsAscii-cons}
use Rattle.std.proofs.lemmas.Bool.Decides.{nat_tests}
use Rattle.page_text.specs.Pages.{hex_digit, hex, Bytes}
use Rattle.page_text.proofs.Splits.{Lacks}

pub hex_append : (xs ys : List ℕ) → hex (xs ++ ys) ≡ hex xs ++ hex ys
unfolding hex
hex_append [] ys = refl
hex_append (x ∷ xs) ys = ap (λ l. hex_digit (x / 16) ∷ (hex_digit (x % 16) ∷ l)) (hex_append xs ys)

-- a byte more
pub hex_more : (xs : List ℕ) (i : ℕ) → i < length xs → hex (take (i + 1) xs) ≡ hex (take i xs) ++ hex (get_or xs i 0 ∷ [])
hex_more xs i l = ap hex (take_more xs i 0 l) ∙ hex_append (take i xs) (get_or xs i 0 ∷ [])

-- the digits of the byte in place i, written behind those of the bytes before it
pub hex_written : (digits bs : List ℕ) (i high low : ℕ) → i < length bs → 2 * i + 1 < length digits → high ≡ hex_digit (get_or bs i 0 / 16) → low ≡ hex_digit (get_or bs i 0 % 16) → take (2 * i) digits ≡ hex (take i bs) → take (2 * (i + 1)) (set (set digits (2 * i) high) (2 * i + 1) low) ≡ hex (take (i + 1) bs)
unfolding hex
hex_written digits bs i high low l m h k e =
    let next : 2 * (i + 1) ≡ 2 * i + 1 + 1 = omega arith in
    let first : 2 * i < length digits = omega arith in
    let second : 2 * i + 1 < length (set digits (2 * i) high) = omega (arith, length-set digits (2 * i) high) in
    rw (next, take_more_set (set digits (2 * i) high) (2 * i + 1) low second, take_more_set digits (2 * i) high first, e, h, k, hex_more bs i l)
    (append_assoc (hex (take i bs)) (hex_digit (get_or bs i 0 / 16) ∷ []) (hex_digit (get_or bs i 0 % 16) ∷ []))

digit_ascii : (d : ℕ) → d < 16 → hex_digit d < 128
digit_ascii d l = grind (arith, nat_tests)

IsAscii-hex : (bs : List ℕ) → ((i : ℕ) → get_or bs i 0 < 256) → IsAscii (hex bs)
unfolding hex
IsAscii-hex [] small = IsAscii-nil
IsAscii-hex (b ∷ bs) small =
    IsAscii-cons (hex_digit (b / 16)) (hex_digit (b % 16) ∷ hex bs) (digit_ascii (b / 16) (omega (arith, small 0)))
    (IsAscii-cons (hex_digit (b % 16)) (hex bs) (digit_ascii (b % 16) (omega arith)) (IsAscii-hex bs (λ i. small (suc i))))

pub IsUtf8-hex : (digits bs : List ℕ) → digits ≡ hex bs → ((i : ℕ) → get_or bs i 0 < 256) → IsUtf8 digits
IsUtf8-hex digits bs e small = subst IsUtf8 (sym e) (IsUtf8-from_ascii (hex bs) (IsAscii-hex bs small))

pub length-hex : (bs : List ℕ) → length (hex bs) ≡ 2 * length bs
unfolding hex
length-hex [] = refl
length-hex (b ∷ bs) = omega (arith, length-hex bs)

-- the digits of the byte in place i
pub get_or_hex : (bs : List ℕ) (i : ℕ) → i < length bs → (get_or (hex bs) (2 * i) 0 ≡ hex_digit (get_or bs i 0 / 16)) × (get_or (hex bs) (2 * i + 1) 0 ≡ hex_digit (get_or bs i 0 % 16))
unfolding hex
get_or_hex [] i l = absurd (omega arith)
get_or_hex (b ∷ bs) zero l = (refl, refl)
get_or_hex (b ∷ bs) (suc i) l =
    let high : 2 * suc i ≡ suc (suc (2 * i)) = omega arith in
    let low : 2 * suc i + 1 ≡ suc (suc (2 * i + 1)) = omega arith in
    rw (low, high) (get_or_hex bs i (omega arith))

-- the two elements of chunk i
pub get_or_first_chunks : (xs : List ℕ) (k i : ℕ) → i < k → (get_or (get_or (first_chunks 2 k xs) i []) 0 0 ≡ get_or xs (2 * i) 0) × (get_or (get_or (first_chunks 2 k xs) i []) 1 0 ≡ get_or xs (2 * i + 1) 0)
get_or_first_chunks xs zero i l = absurd (omega arith)
get_or_first_chunks xs (suc k) zero l = (get_or-take 2 xs 0 0 (omega arith), get_or-take 2 xs 1 0 (omega arith))
get_or_first_chunks xs (suc k) (suc i) l =
    let chunk = get_or_first_chunks (drop 2 xs) k i (omega arith) in
    let high : 2 * suc i ≡ 2 + 2 * i = omega arith in
    let low : 2 * suc i + 1 ≡ 2 + (2 * i + 1) = omega arith in
    rw (low, high) (chunk.0 ∙ get_or-drop 2 xs (2 * i) 0, chunk.1 ∙ get_or-drop 2 xs (2 * i + 1) 0)

-- a pair more
pub hex_pair_more : (word vs vs' : List ℕ) (i b : ℕ) → 2 * i + 1 < length word → vs' ≡ vs ++ (b ∷ []) → take (2 * i) word ≡ hex vs → get_or word (2 * i) 0 ≡ hex_digit (b / 16) → get_or word (2 * i + 1) 0 ≡ hex_digit (b % 16) → take (2 * (i + 1)) word ≡ hex vs'
unfolding hex
hex_pair_more word vs vs' i b l pushed e high low =
    let next : 2 * (i + 1) ≡ 2 * i + 1 + 1 = omega arith in
    rw (next, take_more word (2 * i + 1) 0 l, take_more word (2 * i) 0 (omega arith), e, high, low, pushed, hex_append vs (b ∷ []))
    (append_assoc (hex vs) (hex_digit (b / 16) ∷ []) (hex_digit (b % 16) ∷ []))

pub BytesPush : (vs vs' : List ℕ) (b : ℕ) → vs' ≡ vs ++ (b ∷ []) → Bytes vs → b < 256 → Bytes vs'
BytesPush vs vs' b e s l = subst Bytes (sym e) (All-push (λ b. b < 256) vs b s l)

-- different values have different digits
same_digit : (c d : ℕ) → c < 16 → d < 16 → hex_digit c ≡ hex_digit d → c ≡ d
same_digit c d l m e = grind (arith, nat_tests)

pub same_hex : (bs cs : List ℕ) → Bytes bs → Bytes cs → hex bs ≡ hex cs → bs ≡ cs
unfolding hex
same_hex [] [] s t e = refl
same_hex [] (c ∷ cs) s t e = absurd (omega (arith, ap length e))
same_hex (b ∷ bs) [] s t e = absurd (omega (arith, ap length e))
same_hex (b ∷ bs) (c ∷ cs) s t e =
    let high : b / 16 ≡ c / 16 = same_digit (b / 16) (c / 16) (omega (arith, s.0)) (omega (arith, t.0)) (ap (λ l. get_or l 0 0) e) in
    let low : b % 16 ≡ c % 16 = same_digit (b % 16) (c % 16) (omega arith) (omega arith) (ap (λ l. get_or l 1 0) e) in
    let same : b ≡ c = omega arith in
    ap (λ x. x ∷ bs) same ∙ ap (λ l. c ∷ l) (same_hex bs cs s.1 t.1 (ap (drop 2) e))

digit_apart : (d : ℕ) → 48 ≤ hex_digit d
digit_apart d = grind (arith, nat_tests)

pub lacks_hex : (s : ℕ) (bs : List ℕ) → s < 48 → Lacks s (hex bs)
unfolding hex
lacks_hex s [] l = tt
lacks_hex s (b ∷ bs) l = ((λ e. omega (arith, digit_apart (b / 16))), ((λ e. omega (arith, digit_apart (b % 16))), lacks_hex s bs l))
