-- Facts of the lists of values that arrays mean.
use Rattle.std.specs.Prelude.{◌≡◌, ℕ, ◌+◌, ◌-◌, ◌*◌, ◌/◌, ◌<◌, ◌≤◌, List, [], length, ℤ, Some, None, slice_index_or}
use Rattle.std.specs.List.{between}
use Rattle.std.proofs.Common.{le-div_iff_mul-le, refl, ◌∙◌, ⊎_elim, arith}
use Rattle.std.proofs.lemmas.Bool.{cases_lt}
use Rattle.std.proofs.lemmas.List.{length-map}
use Rattle.std.proofs.lemmas.List.FromFn.{length-map-range_with_len, get_or-map-range_with_len}
use Rattle.page_format.specs.Plain.{Bytes}
use Rattle.arrays.specs.Numbers.{NamedAt}
use Rattle.arrays.specs.Offsets.{offset_rules, offset_value, offset_values}
use Rattle.arrays.specs.Opening.{Fit}
use Rattle.arrays.specs.Widths.{width_value, width_values}

pub ruleset lengths = (length-map, length-map-range_with_len)

-- a value of one width ends within the data
pub ends_within : (w : ℕ) (bytes : Bytes) (i : ℕ) → 0 < w → i < length (width_values w bytes) → (i + 1) * w ≤ length bytes
ends_within w bytes i positive h =
    (le-div_iff_mul-le {k = w} {x = i + 1} {y = length bytes} positive).0 (omega (arith, length-map-range_with_len (width_value w bytes) 0 (length bytes / w)))

pub at_width : (w : ℕ) (bytes : Bytes) (i : ℕ) → i < length (width_values w bytes) → slice_index_or (width_values w bytes) i [] ≡ width_value w bytes i
at_width w bytes i h =
    get_or-map-range_with_len (width_value w bytes) 0 (length bytes / w) i i [] (omega (arith, length-map-range_with_len (width_value w bytes) 0 (length bytes / w))) (omega arith)

-- where all offsets keep their rule, only a place past the last one names none
pub no_value : (os : List ℤ) (n : ℕ) (bytes : Bytes) (i j : ℕ) → Fit (offset_rules os n) → NamedAt os j None → j ≤ i + 1 → length (offset_values os bytes) ≤ i
no_value os n bytes i j fit none h =
    let past : length os ≤ j = ⊎_elim (λ (within : j < length os). absurd (none within (fit.each j within).0)) (λ h. h) (cases_lt j (length os)) in
    omega (arith, length-map-range_with_len (offset_value os bytes) 0 (length os - 1))

pub one_value : (os : List ℤ) (bytes : Bytes) (i from to : ℕ) → NamedAt os i (Some from) → NamedAt os (i + 1) (Some to) → (i < length (offset_values os bytes)) × (slice_index_or (offset_values os bytes) i [] ≡ between from to bytes)
one_value os bytes i from to p q =
    let inside : i < length os - 1 = omega (arith, q.0) in
    let at = get_or-map-range_with_len (offset_value os bytes) 0 (length os - 1) i i [] inside (omega arith) in
    (omega (arith, length-map-range_with_len (offset_value os bytes) 0 (length os - 1)), at ∙ rw (p.1, q.1) refl)
