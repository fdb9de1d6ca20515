-- Varints: steps, lengths, and reading back.
use Rattle.std.proofs.Common.{◌≡◌, ℕ, zero, suc, ◌+◌, ◌*◌, ◌/◌, ◌%◌, ◌^◌, ◌<◌, ◌≤◌, true, false, ltb, leb, List, [], ◌∷◌, ◌++◌, length, get_or, take, max, Ok, Err, sym, refl, ap, ◌∙◌, subst, inl, inr, mul_left_comm, arith, length-append, pow_mono}
use Rattle.std.proofs.lemmas.List.{take_at}
use Rattle.std.proofs.lemmas.Nat.{pow-add, mul-le, shl_whole}
use Rattle.std.proofs.lemmas.Bool.{cases_Bool, cases_lt, ltb-false, lt-ltb, le-ltb, le-leb, lt-leb}
use Rattle.page_format.specs.declared.field.BadField.TheVariants.{Cut, TooLong, TooLarge}
use Rattle.page_format.specs.Bits.{BitsOf, varint_in, varint, continued, sevens, read_varint}
use Rattle.page_format.specs.Laws.{VarintReadsBack, VarintLength}

varint_none : (m : ℕ) → varint_in m 0 ≡ 0 ∷ []
unfolding varint_in
varint_none zero = refl
varint_none (suc m) = refl

-- enough turns are enough
varint_turns : (n m x : ℕ) → x ≤ n → x ≤ m → varint_in n x ≡ varint_in m x
unfolding varint_in
varint_turns zero m x a b = let e : x ≡ 0 = omega arith in rw e (sym (varint_none m))
varint_turns (suc n) zero x a b = let e : x ≡ 0 = omega arith in rw e (varint_none (suc n))
varint_turns (suc n) (suc m) x a b = elim (cases_Bool (ltb x 128))
    [ inl e ↦ rw e | inr e ↦ let h = ltb-false x 128 e in rw e (ap (λ t. (x % 128 + 128) ∷ t) (varint_turns n m (x / 128) (omega arith) (omega arith))) ]

pub varint_more : (x : ℕ) → 128 ≤ x → varint x ≡ (x % 128 + 128) ∷ varint (x / 128)
unfolding varint varint_in
varint_more zero h = absurd (omega arith)
varint_more (suc x) h = rw (le-ltb (suc x) 128 h) (ap (λ t. (suc x % 128 + 128) ∷ t) (varint_turns x (suc x / 128) (suc x / 128) (omega arith) (omega arith)))

pub varint_last : (x : ℕ) → x < 128 → varint x ≡ x ∷ []
unfolding varint varint_in
varint_last zero h = refl
varint_last (suc x) h = rw (lt-ltb (suc x) 128 h) refl

-- what the bytes of a varint say of themselves, whatever follows
pub record Spelled (x : ℕ) (rest : List ℕ) : Type 0 where
  pub long : suc (continued (varint x ++ rest)) ≡ length (varint x)
  pub value : sevens (varint x) ≡ x

spelled_last : (x : ℕ) (rest : List ℕ) → x < 128 → Spelled x rest
unfolding continued sevens
spelled_last x rest h = record { long = rw (varint_last x h, lt-leb 128 x h) refl; value = rw (varint_last x h) (omega arith) }

spelled_more : (x : ℕ) (rest : List ℕ) → 128 ≤ x → Spelled (x / 128) rest → Spelled x rest
unfolding continued sevens
spelled_more x rest h s =
    let b : leb 128 (x % 128 + 128) ≡ true = le-leb 128 (x % 128 + 128) (omega arith) in
    record { long = rw (varint_more x h, b) (ap suc s.long); value = rw (varint_more x h) (omega (arith, s.value)) }

spelled_in : (n x : ℕ) (rest : List ℕ) → x ≤ n → Spelled x rest
spelled_in zero x rest le = spelled_last x rest (omega arith)
spelled_in (suc n) x rest le = elim (cases_lt x 128)
    [ inl h ↦ spelled_last x rest h | inr h ↦ spelled_more x rest h (spelled_in n (x / 128) rest (omega arith)) ]

pub spelled : (x : ℕ) (rest : List ℕ) → Spelled x rest
spelled x rest = spelled_in x x rest (omega arith)

-- a number of k sevens of bits has at most k bytes
varint_sevens : (k x : ℕ) → 0 < k → x < 2 ^ (7 * k) → length (varint x) ≤ k
varint_sevens zero x pos h = absurd (omega arith)
varint_sevens (suc k) x pos h = elim (cases_lt x 128) [
  | inl s ↦ rw (varint_last x s) (omega arith)
  | inr s ↦ rw (varint_more x s) (elim (cases_lt 0 k) [
    | inl p ↦
        let e : 7 * suc k ≡ 7 * k + 7 = omega arith in
        let f : x < 2 ^ (7 * k) * 128 = subst (λ t. x < t) (ap (λ t. 2 ^ t) e ∙ pow-add 2 (7 * k) 7) h in
        let g : length (varint (x / 128)) ≤ k = varint_sevens k (x / 128) p (omega arith) in
        omega arith
    | inr p ↦ let e : 7 * suc k ≡ 7 = omega arith in absurd (omega (arith, subst (λ t. x < 2 ^ t) e h))
  ])
]

-- and no fewer: its bytes hold so many sevens
varint_holds : (n x : ℕ) → x ≤ n → (0 < length (varint x)) × (x < 2 ^ (7 * length (varint x)))
varint_holds zero x le = let e : x ≡ 0 = omega arith in rw (varint_last x (omega arith), e) (omega arith, omega arith)
varint_holds (suc n) x le = elim (cases_lt x 128) [
  | inl s ↦ rw (varint_last x s) (omega arith, omega arith)
  | inr s ↦
      let r = varint_holds n (x / 128) (omega arith) in
      let e : 7 * suc (length (varint (x / 128))) ≡ 7 * length (varint (x / 128)) + 7 = omega arith in
      rw (varint_more x s) (omega arith, rw (e, pow-add 2 (7 * length (varint (x / 128))) 7) (omega (arith, r.1)))
]

-- one byte for each seven bits, and one for 0
pub varint_bytes_of : (x bits r : ℕ) → BitsOf x bits → r ≡ (max bits 1 + 6) / 7 → r ≡ length (varint x)
varint_bytes_of x bits r b is =
    let h = varint_holds x x (omega arith) in
    let p : 2 ^ bits ≤ 2 ^ (7 * r) = pow_mono (omega arith) in
    let above : length (varint x) ≤ r = varint_sevens r x (omega arith) (omega (arith, b.fits)) in
    let below = b.least (7 * length (varint x)) h.1 in
    omega (arith, h.0)

pub varint_length : VarintLength
varint_length w x pos h =
    let e : w ≤ 7 * ((w + 6) / 7) = omega arith in
    let p : 2 ^ w ≤ 2 ^ (7 * ((w + 6) / 7)) = pow_mono e in
    varint_sevens ((w + 6) / 7) x (omega arith) (omega arith)

pub varint_reads_back : VarintReadsBack
unfolding read_varint
varint_reads_back w x rest pos h =
    let s = spelled x rest in
    let l = varint_length w x pos h in
    let a : leb ((w + 6) / 7) (continued (varint x ++ rest)) ≡ false = lt-leb _ _ (omega (arith, s.long)) in
    let b : leb (length (varint x ++ rest)) (continued (varint x ++ rest)) ≡ false = lt-leb _ _ (omega (arith, s.long, length-append (varint x) rest)) in
    let t : take (suc (continued (varint x ++ rest))) (varint x ++ rest) ≡ varint x = take_at (varint x) rest _ (sym s.long) in
    let v : sevens (take (suc (continued (varint x ++ rest))) (varint x ++ rest)) ≡ x = ap sevens t ∙ s.value in
    let c : leb (2 ^ w) x ≡ false = lt-leb _ _ h in
    rw (a, b, v, c, s.long) refl

-- how the reading loop goes over the bytes

pub continued_le : (bs : List ℕ) → continued bs ≤ length bs
unfolding continued
continued_le [] = omega arith
continued_le (b ∷ bs) = elim (cases_Bool (leb 128 b))
    [ inl e ↦ rw e (omega (arith, continued_le bs)) | inr e ↦ rw e (omega arith) ]

pub continued_more : (bs : List ℕ) (i : ℕ) → i < length bs → i ≤ continued bs → 128 ≤ get_or bs i 0 → i + 1 ≤ continued bs
unfolding continued
continued_more [] i h c b = absurd (omega arith)
continued_more (x ∷ bs) zero h c b = rw (le-leb 128 x b) (omega arith)
continued_more (x ∷ bs) (suc i) h c b = elim (cases_Bool (leb 128 x)) [
  | inl e ↦ rw e (omega (arith, continued_more bs i (omega arith) (omega (arith, rw e at c)) b))
  | inr e ↦ absurd (omega (arith, rw e at c))
]

pub continued_stop : (bs : List ℕ) (i : ℕ) → i < length bs → i ≤ continued bs → get_or bs i 0 < 128 → continued bs ≡ i
unfolding continued
continued_stop [] i h c b = absurd (omega arith)
continued_stop (x ∷ bs) zero h c b = rw (lt-leb 128 x b) refl
continued_stop (x ∷ bs) (suc i) h c b = elim (cases_Bool (leb 128 x)) [
  | inl e ↦ rw e (ap suc (continued_stop bs i (omega arith) (omega (arith, rw e at c)) b))
  | inr e ↦ absurd (omega (arith, rw e at c))
]

pub sevens_more : (bs : List ℕ) (i : ℕ) → i < length bs → sevens (take (i + 1) bs) ≡ sevens (take i bs) + get_or bs i 0 % 128 * 2 ^ (7 * i)
unfolding sevens
sevens_more [] i h = absurd (omega arith)
sevens_more (x ∷ bs) zero h = omega arith
sevens_more (x ∷ bs) (suc i) h =
    let e : suc i + 1 ≡ suc (i + 1) = omega arith in
    let f : 7 * suc i ≡ 7 + 7 * i = omega arith in
    rw (e, f, pow-add 2 7 (7 * i)) (omega (arith, sevens_more bs i (omega arith), mul_left_comm (get_or bs i 0 % 128) 128 (2 ^ (7 * i))))

-- the byte at place i: seven bits more, above those that are in
pub record Seven (bs : List ℕ) (i v : ℕ) : Type 0 where
  pub value : v ≡ sevens (take (i + 1) bs)
  pub small : v < 2 ^ (7 * (i + 1))

pub seven_more : (bs : List ℕ) (v i low : ℕ) → i < 5 → i < length bs → low ≡ get_or bs i 0 % 128 → v ≡ sevens (take i bs) → v < 2 ^ (7 * i)
    → Seven bs i (v + low * 2 ^ (7 * i) % 2 ^ 64)
seven_more bs v i low few within low_is is small =
    let q : 7 * (i + 1) ≡ 7 * i + 7 = omega arith in
    let m : low * 2 ^ (7 * i) % 2 ^ 64 ≡ low * 2 ^ (7 * i) = shl_whole low 7 (7 * i) 64 (omega arith) (omega arith) in
    record {
      value = rw (m, low_is) (omega (arith, sevens_more bs i within));
      small = rw (m, q, pow-add 2 (7 * i) 7) (omega (arith, mul-le low (2 ^ (7 * i)) 127 (2 ^ (7 * i)) (omega arith) (omega arith)));
    }

-- and what it finds

module _ (bs : List ℕ) where
  pub read_long : 5 ≤ continued bs → read_varint 32 bs ≡ Err TooLong
  unfolding read_varint
  read_long h = rw (le-leb 5 (continued bs) h) refl

  pub read_cut : length bs ≤ continued bs → continued bs < 5 → read_varint 32 bs ≡ Err Cut
  unfolding read_varint
  read_cut h l = rw (lt-leb 5 (continued bs) l, le-leb (length bs) (continued bs) h) refl

  pub read_whole : (i v : ℕ) → continued bs ≡ i → i < 5 → i < length bs → v ≡ sevens (take (i + 1) bs) → v < 2 ^ 32 → read_varint 32 bs ≡ Ok (record { value = v; len = i + 1 })
  unfolding read_varint
  read_whole i v e l n is s =
      let a : suc (continued bs) ≡ i + 1 = omega arith in
      rw (lt-leb 5 (continued bs) (omega arith), lt-leb (length bs) (continued bs) (omega arith), a, ← is, lt-leb (2 ^ 32) v s) refl

  pub read_large : (i v : ℕ) → continued bs ≡ i → i < 5 → i < length bs → v ≡ sevens (take (i + 1) bs) → 2 ^ 32 ≤ v → read_varint 32 bs ≡ Err TooLarge
  unfolding read_varint
  read_large i v e l n is s =
      let a : suc (continued bs) ≡ i + 1 = omega arith in
      rw (lt-leb 5 (continued bs) (omega arith), lt-leb (length bs) (continued bs) (omega arith), a, ← is, le-leb (2 ^ 32) v s) refl
