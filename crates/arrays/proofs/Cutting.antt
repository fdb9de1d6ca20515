-- Facts of offsets, over the list of their numbers.
use Rattle.std.specs.Prelude.{◌≡◌, ℕ, ◌+◌, ◌-◌, ◌<◌, List, map, length, ℤ, pos, negsuc, Some, None, slice_index_or}
use Rattle.std.proofs.Common.{arith, refl, ap, ◌∙◌, sym, below_more}
use Rattle.std.proofs.lemmas.List.{get_or-map}
use Rattle.std.proofs.lemmas.Int.{ints}
use Rattle.arrays.specs.Offsets.{OffsetRule, Passes, offset_rules}
use Rattle.arrays.specs.Opening.{Keep, FirstBroken}
use Rattle.arrays.specs.Numbers.{number_at}

-- the first j offsets keep their rule, and the last of them is `before`
pub record Kept (os : List ℤ) (n j before : ℕ) : Type 0 where
  pub keep : Keep (offset_rules os n) j
  pub first : j ≡ 0 → before ≡ 0
  pub last : 0 < j → number_at os (j - 1) ≡ pos before

module _ (os : List ℤ) (n j before : ℕ) (kept : Kept os n j before) where
  pub kept_more : (z : ℤ) (at : ℕ) → number_at os j ≡ z → Passes z before n (Some at) → Kept os n (j + 1) at
  kept_more z at is p =
      let here : OffsetRule os n j = grind (arith, ints) in
      record {
        keep = below_more _ _ kept.keep here;
        first = λ h. absurd (omega arith);
        last = λ h. ap (number_at os) (omega arith) ∙ is ∙ p.0;
      }

  breaks : (z : ℤ) → number_at os j ≡ z → Passes z before n None → OffsetRule os n j → ⊥
  breaks (pos m) is p r = p m refl (grind (arith, ints)) (omega (arith, ints))
  breaks (negsuc m) is p r = omega (arith, ints)

  pub kept_broken : (z : ℤ) → number_at os j ≡ z → Passes z before n None → j < length os → FirstBroken (offset_rules os n) j
  kept_broken z is p h = record { inside = h; breaks = breaks z is p; before = kept.keep }

-- an element that was read at j is the number at j
pub number_read : {N : Type 0} (number : N → ℤ) (xs : List N) (j : ℕ) (x : N) → j < length xs → x ≡ slice_index_or xs j x → number_at (map number xs) j ≡ number x
number_read number xs j x h is = get_or-map number xs j x (pos 0) h ∙ sym (ap number is)
