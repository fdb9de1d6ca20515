-- What an array means: a list of byte strings.
use Rattle.std.specs.Prelude.{◌≡◌, ℕ, ◌<◌, ◌≤◌, List, [], length, Some, None, Option, slice_index_or}
use Rattle.std.specs.Borrow.{Bor}
use Rattle.page_format.specs.Plain.{Bytes}

-- the answer to a question for the value at place i
abbrev pub ValueAt : List Bytes → ℕ → Option (Bor Bytes) → Type 0
ValueAt values i None = length values ≤ i
ValueAt values i (Some v) = (i < length values) × (v.now ≡ slice_index_or values i [])
