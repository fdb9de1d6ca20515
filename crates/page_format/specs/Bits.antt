-- The bit-level fields of a page, from Parquet's Encodings.md: little-endian numbers, varints, zigzag, packed rows.
-- A byte is a number below 256, and every definition is over the width where there is one.
use Rattle.std.specs.Prelude.{ℕ, zero, suc, ◌+◌, ◌*◌, ◌/◌, ◌%◌, ◌^◌, ◌<◌, ◌≤◌, cond, List, [], ◌∷◌, map, length, take, ℤ, pos, negsuc, Ok, Err, Result, ◌==◌, nat_le, nat_lt}
use Rattle.page_format.specs.declared.field.Field.{Field}
use Rattle.page_format.specs.declared.field.BadField.{BadField}
use Rattle.page_format.specs.declared.field.BadField.TheVariants.{Cut, TooLong, TooLarge}

-- r is the least number of bits that hold x
pub record BitsOf (x r : ℕ) : Type 0 where
  pub fits : x < 2 ^ r
  pub least : (k : ℕ) → x < 2 ^ k → r ≤ k

-- r is the least number of parts of size b that hold a
pub record PartsOf (a b r : ℕ) : Type 0 where
  pub fits : a ≤ r * b
  pub least : (q : ℕ) → a ≤ q * b → r ≤ q

-- bytes that hold so many bits
abbrev pub bytes_for : ℕ → ℕ
bytes_for bits = (bits + 7) / 8

-- n bytes of a number, the lowest first
unfoldable pub le_bytes : ℕ → ℕ → List ℕ
le_bytes zero x = []
le_bytes (suc n) x = x % 256 ∷ le_bytes n (x / 256)

-- the number that bytes are, the lowest first
unfoldable pub le_number : List ℕ → ℕ
le_number [] = 0
le_number (b ∷ bs) = b + 256 * le_number bs

-- the number at the front of bs in n bytes, of which there are at most eight
abbrev pub read_le : ℕ → List ℕ → Result ℕ BadField
read_le n bs = cond (nat_lt 8 n) (Err TooLong) (cond (nat_lt (length bs) n) (Err Cut) (Ok (le_number (take n bs))))

-- a number by sevens of bits, the lowest first, with 128 more in each byte but the last; the first argument only bounds the recursion
unfoldable pub varint_in : ℕ → ℕ → List ℕ
varint_in zero x = x ∷ []
varint_in (suc n) x = cond (nat_lt x 128) (x ∷ []) ((x % 128 + 128) ∷ varint_in n (x / 128))

unfoldable pub varint : ℕ → List ℕ
varint x = varint_in x x

-- bytes of 128 and more at the front
unfoldable pub continued : List ℕ → ℕ
continued [] = 0
continued (b ∷ bs) = cond (nat_le 128 b) (suc (continued bs)) 0

-- the number that sevens of bits are, the lowest first
unfoldable pub sevens : List ℕ → ℕ
sevens [] = 0
sevens (b ∷ bs) = b % 128 + 128 * sevens bs

-- bytes of the longest varint below 2 ^ w
abbrev pub varint_bytes : ℕ → ℕ
varint_bytes w = (w + 6) / 7

-- the varint at the front of bs, below 2 ^ w: it ends with its first byte below 128
unfoldable pub read_varint : ℕ → List ℕ → Result Field BadField
read_varint w bs =
    cond (nat_le (varint_bytes w) (continued bs))
    (Err TooLong)
    (cond (nat_le (length bs) (continued bs))
    (Err Cut)
    (cond (nat_le (2 ^ w) (sevens (take (suc (continued bs)) bs)))
    (Err TooLarge)
    (Ok (record { value = sevens (take (suc (continued bs)) bs); len = suc (continued bs) }))))

-- 2v, or −2v − 1 below 0
abbrev pub zigzagged : ℤ → ℕ
zigzagged (pos n) = 2 * n
zigzagged (negsuc n) = 2 * n + 1

abbrev pub unzigzagged : ℕ → ℤ
unzigzagged n = cond (n % 2 == 0) (pos (n / 2)) (negsuc (n / 2))

-- a row of values at w bits each, as one number: the first value lowest
unfoldable pub packed_number : ℕ → List ℕ → ℕ
packed_number w [] = 0
packed_number w (v ∷ vs) = v + 2 ^ w * packed_number w vs

-- and as bytes, filled from the least significant bit
unfoldable pub packed_bytes : ℕ → List ℕ → List ℕ
packed_bytes w vs = le_bytes (bytes_for (length vs * w)) (packed_number w vs)

-- the value at place i of a packed row
unfoldable pub packed_value : ℕ → List ℕ → ℕ → ℕ
packed_value w bs i = le_number bs / 2 ^ (i * w) % 2 ^ w

-- the value at place i of bs, packed at w bits, of which there are at most 64
abbrev pub read_packed : ℕ → List ℕ → ℕ → Result ℕ BadField
read_packed w bs i = cond (nat_lt 64 w) (Err TooLong) (cond (nat_lt (8 * length bs) (suc i * w)) (Err Cut) (Ok (packed_value w bs i)))

-- the w low bits of each value
abbrev pub low_bits : ℕ → List ℕ → List ℕ
low_bits w vs = map (λ v. v % 2 ^ w) vs
