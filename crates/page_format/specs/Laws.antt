-- What is written reads back, over every width.
use Rattle.std.specs.Prelude.{◌≡◌, ℕ, ◌*◌, ◌%◌, ◌^◌, ◌<◌, ◌≤◌, List, ◌++◌, length, ℤ, Ok, slice_index}
use Rattle.page_format.specs.Bits.{varint, read_varint, varint_bytes, le_bytes, le_number, packed_bytes, packed_value, low_bits, zigzagged, unzigzagged, bytes_for}

abbrev pub VarintReadsBack : Type 0
VarintReadsBack = (w x : ℕ) (rest : List ℕ) → 0 < w → x < 2 ^ w → read_varint w (varint x ++ rest) ≡ Ok (record { value = x; len = length (varint x) })

abbrev pub VarintLength : Type 0
VarintLength = (w x : ℕ) → 0 < w → x < 2 ^ w → length (varint x) ≤ varint_bytes w

abbrev pub LeReadsBack : Type 0
LeReadsBack = (n x : ℕ) → (length (le_bytes n x) ≡ n) × (x < 2 ^ (8 * n) → le_number (le_bytes n x) ≡ x)

abbrev pub PackedReadsBack : Type 0
PackedReadsBack = (w : ℕ) (vs : List ℕ) (i : ℕ) → i < length vs → packed_value w (packed_bytes w (low_bits w vs)) i ≡ slice_index vs i % 2 ^ w

abbrev pub PackedLength : Type 0
PackedLength = (w : ℕ) (vs : List ℕ) → length (packed_bytes w vs) ≡ bytes_for (length vs * w)

abbrev pub ZigzagReadsBack : Type 0
ZigzagReadsBack = ((z : ℤ) → unzigzagged (zigzagged z) ≡ z) × ((n : ℕ) → zigzagged (unzigzagged n) ≡ n)
