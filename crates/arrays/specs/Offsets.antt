-- Arrays whose values stand one after another, cut by offsets.
use Rattle.std.specs.Prelude.{◌≡◌, ℕ, ◌+◌, ◌-◌, ◌<◌, ◌≤◌, ◌⊎◌, List, map, length, ℤ, pos, ◌≤ℤ◌, Some, None, Option}
use Rattle.std.specs.List.{between, range_with_len}
use Rattle.page_format.specs.Limits.{array_values, data_bytes}
use Rattle.arrays.specs.Opening.{Rules}
use Rattle.arrays.specs.Numbers.{number_at, place_of}
use Rattle.page_format.specs.Plain.{Bytes}

-- offset j starts at 0 or above, does not fall, and does not pass the data's end
abbrev pub OffsetRule : List ℤ → ℕ → ℕ → Type 0
OffsetRule os n j = (pos 0 ≤ℤ number_at os j) × (0 < j → number_at os (j - 1) ≤ℤ number_at os j) × (number_at os j ≤ℤ pos n)

-- the answer to a question for the place that an offset names, if that is from low to high
abbrev pub Passes : ℤ → ℕ → ℕ → Option ℕ → Type 0
Passes z low high None = (at : ℕ) → z ≡ pos at → low ≤ at → at ≤ high → ⊥
Passes z low high (Some at) = (z ≡ pos at) × (low ≤ at) × (at ≤ high)

-- the rules of m + 1 offsets into n bytes, which make m values
abbrev pub offset_rules : List ℤ → ℕ → Rules
offset_rules os n =
    record {
      above = (array_values + 1 < length os) ⊎ (data_bytes < n);
      malformed = length os ≡ 0;
      rule = OffsetRule os n;
      count = length os;
    }

-- value i stands from offset i to offset i + 1
abbrev pub offset_value : List ℤ → Bytes → ℕ → Bytes
offset_value os bytes i = between (place_of (number_at os i)) (place_of (number_at os (i + 1))) bytes

abbrev pub offset_values : List ℤ → Bytes → List Bytes
offset_values os bytes = map (offset_value os bytes) (range_with_len 0 (length os - 1))
