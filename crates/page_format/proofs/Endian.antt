-- Little-endian numbers: lengths, splits, and reading back.
use Rattle.std.proofs.Common.{◌≡◌, ℕ, zero, suc, ◌+◌, ◌-◌, ◌*◌, ◌/◌, ◌%◌, ◌^◌, ◌<◌, ◌≤◌, List, [], ◌∷◌, ◌++◌, length, get_or, take, drop, bit_or, sym, refl, ap, ◌∙◌, subst, inl, inr, mod-eq_of_lt, mul_assoc, mul_comm, length-append, arith, length-take}
use native.Mathlib.Nat.{div-div-eq-div-mul}
use Rattle.std.proofs.Math.Seq.{get_or-append_seam}
use Rattle.std.proofs.lemmas.Bool.{cases_lt}
use Rattle.std.proofs.lemmas.List.{append_assoc, get_or-take, get_or_past, length-take-le, drop-drop}
use Rattle.std.proofs.lemmas.Nat.{mod-pow-add, pow-add, shr-shr, shr_high, shl_whole, or_shifted}
use Rattle.page_format.specs.Bits.{le_bytes, le_number}

pub length-le_bytes : (n x : ℕ) → length (le_bytes n x) ≡ n
unfolding le_bytes
length-le_bytes zero x = refl
length-le_bytes (suc n) x = ap suc (length-le_bytes n (x / 256))

-- the first bytes, and those behind them
pub le_append : (n m x : ℕ) → le_bytes (n + m) x ≡ le_bytes n x ++ le_bytes m (x / 2 ^ (8 * n))
unfolding le_bytes
le_append zero m x = let e : zero + m ≡ m = omega arith in let f : x / 1 ≡ x = omega arith in rw (e, f) refl
le_append (suc n) m x =
    let e : suc n + m ≡ suc (n + m) = omega arith in
    let f : 8 * suc n ≡ 8 + 8 * n = omega arith in
    rw (e, f, ← shr-shr x 8 (8 * n)) (ap (λ t. x % 256 ∷ t) (le_append n m (x / 256)))

-- only the low bits count
pub le_low : (n x : ℕ) → le_bytes n (x % 2 ^ (8 * n)) ≡ le_bytes n x
unfolding le_bytes
le_low zero x = refl
le_low (suc n) x =
    let f : 8 * suc n ≡ 8 * n + 8 = omega arith in
    let e : x % 2 ^ (8 * suc n) ≡ (x / 256 % 2 ^ (8 * n)) * 256 + x % 256 = rw f (mod-pow-add x (8 * n) 8) in
    let a : x % 2 ^ (8 * suc n) % 256 ≡ x % 256 = omega arith in
    let b : x % 2 ^ (8 * suc n) / 256 ≡ x / 256 % 2 ^ (8 * n) = omega arith in
    rw (a, b) (ap (λ t. x % 256 ∷ t) (le_low n (x / 256)))

pub le_number_bytes : (n x : ℕ) → le_number (le_bytes n x) ≡ x % 2 ^ (8 * n)
unfolding le_bytes le_number
le_number_bytes zero x = let e : x % 1 ≡ 0 = omega arith in sym e
le_number_bytes (suc n) x =
    let f : 8 * suc n ≡ 8 * n + 8 = omega arith in
    let e : x % 2 ^ (8 * suc n) ≡ (x / 256 % 2 ^ (8 * n)) * 256 + x % 256 = rw f (mod-pow-add x (8 * n) 8) in
    rw (le_number_bytes n (x / 256), e) (omega arith)

pub le_reads : (n x : ℕ) → x < 2 ^ (8 * n) → le_number (le_bytes n x) ≡ x
le_reads n x h = le_number_bytes n x ∙ mod-eq_of_lt h

pub le_eight : (x : ℕ) → le_bytes 8 x ≡ (x % 256) ∷ (x / 256 % 256) ∷ (x / 65536 % 256) ∷ (x / 16777216 % 256) ∷ (x / 4294967296 % 256) ∷ (x / 1099511627776 % 256) ∷ (x / 281474976710656 % 256) ∷ (x / 72057594037927936 % 256) ∷ []
unfolding le_bytes
le_eight x = simp div-div-eq-div-mul

pub take-le : (n m x : ℕ) → n ≤ m → take n (le_bytes m x) ≡ le_bytes n x
unfolding le_bytes
take-le zero m x h = refl
take-le (suc n) zero x h = absurd (omega arith)
take-le (suc n) (suc m) x h = ap (λ t. x % 256 ∷ t) (take-le n m (x / 256) (omega arith))

-- the last byte of those that are left comes in front of the number that those behind them are
pub byte_before : (bs rest back : List ℕ) (v b : ℕ) → length bs ≤ 16 → ((i : ℕ) → get_or bs i 0 < 256) → bs ≡ (rest ++ b ∷ []) ++ back
    → v ≡ le_number back → v < 2 ^ (8 * length back)
    → (bs ≡ rest ++ (b ∷ back)) × (bit_or (v * 2 ^ 8 % 2 ^ 128) b ≡ le_number (b ∷ back)) × (bit_or (v * 2 ^ 8 % 2 ^ 128) b < 2 ^ (8 * length (b ∷ back)))
unfolding le_number
byte_before bs rest back v b few bytes are is small =
    let all : bs ≡ rest ++ (b ∷ back) = are ∙ append_assoc rest (b ∷ []) back in
    let at : get_or bs (length rest) 0 ≡ b = ap (λ t. get_or t (length rest) 0) all ∙ get_or-append_seam rest b back 0 in
    let byte : b < 256 = subst (λ t. t < 256) at (bytes (length rest)) in
    let l : length bs ≡ length rest + suc (length back) = ap length all ∙ length-append rest (b ∷ back) in
    let m : v * 2 ^ 8 % 2 ^ 128 ≡ v * 2 ^ 8 = shl_whole v (8 * length back) 8 128 small (omega (arith, few, l)) in
    let o : bit_or (v * 2 ^ 8 % 2 ^ 128) b ≡ v * 2 ^ 8 + b = rw m (or_shifted v 8 b byte) in
    let q : 8 * suc (length back) ≡ 8 * length back + 8 = omega arith in
    (all, omega (arith, o, is), rw (o, q, pow-add 2 (8 * length back) 8) (omega (arith, small, byte)))

pub le_split : (n : ℕ) (bs : List ℕ) → le_number bs ≡ le_number (take n bs) + 2 ^ (8 * n) * le_number (drop n bs)
unfolding le_number
le_split zero bs = omega arith
le_split (suc n) [] = omega arith
le_split (suc n) (b ∷ bs) =
    let e : 8 * suc n ≡ 8 + 8 * n = omega arith in
    rw (e, pow-add 2 8 (8 * n)) (omega (arith, le_split n bs, mul_assoc 256 (2 ^ (8 * n)) (le_number (drop n bs))))

pub le_below : (bs : List ℕ) → ((i : ℕ) → get_or bs i 0 < 256) → le_number bs < 2 ^ (8 * length bs)
unfolding le_number
le_below [] h = omega arith
le_below (b ∷ bs) h =
    let e : 8 * suc (length bs) ≡ 8 + 8 * length bs = omega arith in
    rw (e, pow-add 2 8 (8 * length bs)) (omega (arith, h 0, le_below bs (λ i. h (suc i))))

pub bytes_take : (n : ℕ) (bs : List ℕ) → ((i : ℕ) → get_or bs i 0 < 256) → (i : ℕ) → get_or (take n bs) i 0 < 256
bytes_take n bs h i = elim (cases_lt i n) [
  | inl l ↦ rw (get_or-take n bs i 0 l) (h i)
  | inr l ↦ rw (get_or_past (take n bs) i 0 (omega (arith, length-take n bs))) (omega arith)
]

-- what is below whole bytes goes away with them
pub le_shift : (n : ℕ) (bs : List ℕ) → ((i : ℕ) → get_or bs i 0 < 256) → n ≤ length bs → le_number bs / 2 ^ (8 * n) ≡ le_number (drop n bs)
le_shift n bs h l =
    let b : le_number (take n bs) < 2 ^ (8 * n) = subst (λ t. le_number (take n bs) < 2 ^ (8 * t)) (length-take-le n bs l) (le_below (take n bs) (bytes_take n bs h)) in
    let e : le_number bs ≡ le_number (drop n bs) * 2 ^ (8 * n) + le_number (take n bs) = omega (arith, le_split n bs, mul_comm (2 ^ (8 * n)) (le_number (drop n bs))) in
    rw e (shr_high (le_number (drop n bs)) (8 * n) (le_number (take n bs)) b)

-- what is the same behind a place is the same behind a later one
pub drop-later : (xs ys : List ℕ) (a b : ℕ) → a ≤ b → drop a xs ≡ drop a ys → drop b xs ≡ drop b ys
drop-later xs ys a b h e =
    let f : a + (b - a) ≡ b = omega arith in
    ap (λ t. drop t xs) (sym f) ∙ sym (drop-drop (b - a) a xs) ∙ ap (drop (b - a)) e ∙ drop-drop (b - a) a ys ∙ ap (λ t. drop t ys) f
