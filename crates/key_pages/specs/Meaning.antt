-- What a key page stands for, by Parquet's Encodings.md: one byte, the bit width, then runs until the count is reached.
-- Nothing here speaks of our own writer.
use Rattle.std.specs.Prelude.{◌≡◌, ℕ, ◌+◌, ◌-◌, ◌*◌, ◌<◌, ◌≤◌, List, [], ◌∷◌, map, length, take, drop, replicate, Ok, Err, slice_index}
use Rattle.std.specs.List.{range_with_len, flat_map, AllByRecursion}
use Rattle.page_format.specs.Bits.{read_varint, le_number, packed_value, bytes_for}
use Rattle.page_format.specs.Limits.{key_width}
use Rattle.page_format.specs.declared.field.BadField.{BadField}

-- A run as it stands in a page: the place of its first byte, then a count and the bytes of the repeated value,
-- or a number of groups of eight values and the bytes that they are packed in.
pub data ReadRun : Type 0 where
  repeats : (place count : ℕ) (value : List ℕ) → ReadRun
  packs : (place groups : ℕ) (bytes : List ℕ) → ReadRun

-- the first n values packed in bs at w bits
unfoldable pub unpacked : ℕ → List ℕ → ℕ → List ℕ
unpacked w bs n = map (packed_value w bs) (range_with_len 0 n)

-- how many values a run has
abbrev pub run_length : ReadRun → ℕ
run_length (repeats place count value) = count
run_length (packs place groups bytes) = 8 * groups

-- the values of a run at w bits; a repeated value is all its bytes
unfoldable pub run_values : ℕ → ReadRun → List ℕ
run_values w (repeats place count value) = replicate count (le_number value)
run_values w (packs place groups bytes) = unpacked w bytes (8 * groups)

-- a run has at most 2^31 − 1 values; a repeat's header cannot say more
abbrev pub most_values : ℕ
most_values = 2147483647

-- bs begin with a run's header h, a varint of n bytes
abbrev pub Header : List ℕ → ℕ → ℕ → Type 0
Header bs h n = read_varint 32 bs ≡ Ok (record { value = h; len = n })

-- bs, which begin at a place of the page and owe `left` values, begin with this run, in so many bytes
pub data RunAt (w place left : ℕ) (bs : List ℕ) : ReadRun → ℕ → Type 0 where
  a_repeat : (count n : ℕ) → Header bs (2 * count) n → 0 < count → count ≤ left → n + bytes_for w ≤ length bs
      → RunAt w place left bs (repeats place count (take (bytes_for w) (drop n bs))) (n + bytes_for w)
  a_packed : (groups n : ℕ) → Header bs (2 * groups + 1) n → 0 < groups → 8 * groups ≤ most_values → n + groups * w ≤ length bs
      → RunAt w place left bs (packs place groups (take (groups * w) (drop n bs))) (n + groups * w)

-- bs are these runs and nothing else; only the last may have more values than are owed, and only if it is packed
pub data RunsOf (w : ℕ) : ℕ → ℕ → List ℕ → List ReadRun → Type 0 where
  no_more : {place : ℕ} → RunsOf w place 0 [] []
  one_more : {place left size : ℕ} {bs : List ℕ} {run : ReadRun} {runs : List ReadRun}
      → 0 < left → RunAt w place left bs run size → RunsOf w (place + size) (left - run_length run) (drop size bs) runs
      → RunsOf w place left bs (run ∷ runs)

-- the first wrong field of a run that is none, counted from the run's first byte
pub data WrongRun (w left : ℕ) (bs : List ℕ) : ℕ → Type 0 where
  no_header : (e : BadField) → read_varint 32 bs ≡ Err e → WrongRun w left bs 0
  empty_run : (h n : ℕ) → Header bs h n → h < 2 → WrongRun w left bs 0
  too_many : (count n : ℕ) → Header bs (2 * count) n → left < count → WrongRun w left bs 0
  cut_value : (count n : ℕ) → Header bs (2 * count) n → 0 < count → count ≤ left → length bs < n + bytes_for w → WrongRun w left bs n
  too_long : (groups n : ℕ) → Header bs (2 * groups + 1) n → most_values < 8 * groups → WrongRun w left bs 0
  cut_groups : (groups n : ℕ) → Header bs (2 * groups + 1) n → 0 < groups → 8 * groups ≤ most_values → length bs < n + groups * w → WrongRun w left bs n

-- the place of the first wrong field of bs, which begin at a place of the page and owe `left` values
pub data WrongAt (w : ℕ) : ℕ → ℕ → List ℕ → ℕ → Type 0 where
  left_over : {place b : ℕ} {bs : List ℕ} → WrongAt w place 0 (b ∷ bs) place
  here : {place left k : ℕ} {bs : List ℕ} → 0 < left → WrongRun w left bs k → WrongAt w place left bs (place + k)
  later : {place left size p : ℕ} {bs : List ℕ} {run : ReadRun}
      → 0 < left → RunAt w place left bs run size → WrongAt w (place + size) (left - run_length run) (drop size bs) p
      → WrongAt w place left bs p

-- a page with its count stands for these runs, at width w
pub data Means : List ℕ → ℕ → ℕ → List ReadRun → Type 0 where
  means : {w count : ℕ} {bs : List ℕ} {runs : List ReadRun} → w ≤ key_width → RunsOf w 1 count bs runs → Means (w ∷ bs) count w runs

-- the first wrong field of a page that stands for nothing
pub data Malformed : List ℕ → ℕ → ℕ → Type 0 where
  no_width : {count : ℕ} → Malformed [] count 0
  wide : {w count : ℕ} {bs : List ℕ} → key_width < w → Malformed (w ∷ bs) count 0
  wrong : {w count p : ℕ} {bs : List ℕ} → w ≤ key_width → WrongAt w 1 count bs p → Malformed (w ∷ bs) count p

-- the keys of runs at width w: the first `count` of their values
abbrev pub keys_of : ℕ → ℕ → List ReadRun → List ℕ
keys_of w count runs = take count (flat_map (run_values w) runs)

-- k is the number of the first key that is not below the entries
pub record FirstOutside (keys : List ℕ) (entries k : ℕ) : Type 0 where
  pub inside : k < length keys
  pub outside : entries ≤ slice_index keys k
  pub first : AllByRecursion (λ x. x < entries) (take k keys)
