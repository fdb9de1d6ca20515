-- PLAIN, from Parquet's Encodings.md: a byte string is its length in four bytes, the lowest first, and then its bytes;
-- a value of a fixed width is its bytes. A page is its values one after another, and its reader is told how many.
use Rattle.std.specs.Prelude.{◌≡◌, ℕ, ◌^◌, ◌<◌, cond, List, [], ◌++◌, length, ◌==◌, nat_lt}
use Rattle.std.specs.List.{flat_map, AllByRecursion}
use Rattle.page_format.specs.Bits.{le_bytes}
use Rattle.page_format.specs.Faults.{Told, answered, rejected}
use Rattle.page_format.specs.Limits.{fixed_width}
use Rattle.page_format.specs.declared.column.Column.{Column}
use Rattle.page_format.specs.declared.column.Column.TheVariants.{ByteStrings, Fixed}

abbrev pub Bytes : Type 0
Bytes = List ℕ

-- the answer to a width that a column is given
abbrev pub given_width : ℕ → Told ℕ
given_width w = cond (nat_lt fixed_width w) (rejected 2 1 0) (cond (w == 0) (rejected 1 1 0) (answered w))

-- v is a value that PLAIN has a form for
abbrev pub PlainValue : Column → Bytes → Type 0
PlainValue ByteStrings v = length v < 2 ^ 32
PlainValue (Fixed w) v = length v ≡ w.bytes

-- what stands in front of a value
abbrev pub plain_head : Column → Bytes → Bytes
plain_head ByteStrings v = le_bytes 4 (length v)
plain_head (Fixed w) v = []

abbrev pub plain_form : Column → Bytes → Bytes
plain_form c v = plain_head c v ++ v

abbrev pub plain_page : Column → List Bytes → Bytes
plain_page c vs = flat_map (plain_form c) vs

-- the page with this count, read as PLAIN, is these values
pub record ReadsPlain (c : Column) (page : Bytes) (count : ℕ) (vs : List Bytes) : Type 0 where
  pub counted : length vs ≡ count
  pub values : AllByRecursion (PlainValue c) vs
  pub whole : page ≡ plain_page c vs

-- a page has one reading at most
abbrev pub OnePlainReading : Type 0
OnePlainReading = (c : Column) (page : Bytes) (count : ℕ) (vs ws : List Bytes) → ReadsPlain c page count vs → ReadsPlain c page count ws → vs ≡ ws
