-- Arrays whose values are named by keys to the values of another array.
use Rattle.std.specs.Prelude.{ℕ, ◌<◌, List, [], map, length, ℤ, pos, negsuc, ◌≤ℤ◌, ◌<ℤ◌, slice_index_or}
use Rattle.page_format.specs.Limits.{most_entries}
use Rattle.arrays.specs.Numbers.{number_at}
use Rattle.arrays.specs.Opening.{Rules}
use Rattle.page_format.specs.Plain.{Bytes}

-- the key names one of n values
abbrev pub KeyNames : ℤ → ℕ → Type 0
KeyNames k n = (pos 0 ≤ℤ k) × (k <ℤ pos n)

-- the rules of keys to n values
abbrev pub key_rules : List ℤ → ℕ → Rules
key_rules ks n =
    record {
      above = most_entries < length ks;
      malformed = ⊥;
      rule = λ j. KeyNames (number_at ks j) n;
      count = length ks;
    }

-- the value that a key names, and the empty string where it names none
abbrev pub key_value : List Bytes → ℤ → Bytes
key_value values (pos n) = slice_index_or values n []
key_value values (negsuc n) = []

abbrev pub key_values : List Bytes → List ℤ → List Bytes
key_values values ks = map (key_value values) ks
