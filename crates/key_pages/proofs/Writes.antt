-- Keys as the values of a packed row, and parts of eight.
use Rattle.std.proofs.Common.{◌≡◌, ℕ, ◌+◌, ◌/◌, ◌%◌, ◌^◌, ◌<◌, List, [], ◌∷◌, refl, mod-eq_of_lt, arith}
use Rattle.std.specs.List.{AllByRecursion}
use Rattle.page_format.specs.Bits.{PartsOf, low_bits}

-- keys that the width holds are their own low bits
pub low_same : (w : ℕ) (ks : List ℕ) → AllByRecursion (λ k. k < 2 ^ w) ks → low_bits w ks ≡ ks
low_same w [] h = refl
low_same w (k ∷ ks) h = let e : k % 2 ^ w ≡ k = mod-eq_of_lt h.0 in rw (e, low_same w ks h.1) refl

-- the parts of eight that hold n
pub parts_eight : (n r : ℕ) → PartsOf n 8 r → r ≡ (n + 7) / 8
parts_eight n r p = omega (arith, p.fits, p.least ((n + 7) / 8) (omega arith))
