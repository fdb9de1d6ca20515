-- The signed numbers that an array holds as offsets or keys. A number is the same at 32 bits and at 64.
use Rattle.std.specs.Prelude.{◌≡◌, ℕ, ◌<◌, List, length, ℤ, pos, negsuc, ◌≤ℤ◌, Some, None, Option, slice_index_or}

-- the place that a number names: none below 0
abbrev pub place_named : ℤ → Option ℕ
place_named (pos n) = Some n
place_named (negsuc n) = None

-- the same, and 0 where it names none
abbrev pub place_of : ℤ → ℕ
place_of (pos n) = n
place_of (negsuc n) = 0

-- the number at place j
abbrev pub number_at : List ℤ → ℕ → ℤ
number_at ns j = slice_index_or ns j (pos 0)

-- the answer to a question for the place that number j names
abbrev pub NamedAt : List ℤ → ℕ → Option ℕ → Type 0
NamedAt ns j None = j < length ns → pos 0 ≤ℤ number_at ns j → ⊥
NamedAt ns j (Some place) = (j < length ns) × (number_at ns j ≡ pos place)
