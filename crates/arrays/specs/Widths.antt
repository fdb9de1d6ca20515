-- Arrays whose values have one width.
use Rattle.std.specs.Prelude.{◌≡◌, ℕ, ◌+◌, ◌*◌, ◌/◌, ◌%◌, ◌<◌, ◌⊎◌, List, map, length}
use Rattle.std.specs.List.{between, range_with_len}
use Rattle.page_format.specs.Limits.{array_values, data_bytes, fixed_width}
use Rattle.arrays.specs.Opening.{Rules}
use Rattle.page_format.specs.Plain.{Bytes}

-- a limit that n bytes in values of width w are above
pub data AboveWidth (w n : ℕ) : Type 0 where
  wide : fixed_width < w → AboveWidth w n
  long : data_bytes < n → AboveWidth w n
  many : 0 < w → array_values < n / w → AboveWidth w n

-- the rules of n bytes in values of width w
abbrev pub width_rules : ℕ → ℕ → Rules
width_rules w n =
    record {
      above = AboveWidth w n;
      malformed = (w ≡ 0) ⊎ (0 < n % w);
      rule = λ _. Unit {0};
      count = 0;
    }

-- value i stands from i * w to (i + 1) * w
abbrev pub width_value : ℕ → Bytes → ℕ → Bytes
width_value w bytes i = between (i * w) ((i + 1) * w) bytes

abbrev pub width_values : ℕ → Bytes → List Bytes
width_values w bytes = map (width_value w bytes) (range_with_len 0 (length bytes / w))
