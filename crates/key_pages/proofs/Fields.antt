-- Bounds on the fields of a page.
use Rattle.std.proofs.Common.{◌≡◌, ℕ, zero, suc, ◌+◌, ◌*◌, ◌/◌, ◌^◌, ◌<◌, ◌≤◌, List, [], ◌∷◌, length, get_or, Ok, ap, ◌∙◌, arith, pow_mono}
use Rattle.std.proofs.lemmas.Nat.{pow_pos, pow-add, mod_below}
use Rattle.std.proofs.lemmas.List.{take_all}
use Rattle.std.proofs.lemmas.Bool.Decides.{nat_tests}
use Rattle.std.proofs.lemmas.Bool.{le-ltb}
use Rattle.page_format.specs.Bits.{read_varint, le_number, read_le, packed_value}
use Rattle.page_format.specs.declared.field.Field.{Field}

-- a field lies within its bytes and its type
pub record Sized (w : ℕ) (bs : List ℕ) (f : Field) : Type 0 where
  pub inside : f.len ≤ length bs
  pub below : f.value < 2 ^ w

pub varint_sized : (w : ℕ) (bs : List ℕ) (f : Field) → read_varint w bs ≡ Ok f → Sized w bs f
unfolding read_varint
varint_sized w bs f e = record { inside = grind (arith, nat_tests); below = grind (arith, nat_tests) }

-- numbers of few bytes

pub le_below : (n : ℕ) (bs : List ℕ) → length bs ≤ n → ((i : ℕ) → get_or bs i 0 < 256) → le_number bs < 2 ^ (8 * n)
unfolding le_number
le_below n [] h bytes = pow_pos (8 * n)
le_below zero (b ∷ bs) h bytes = absurd (omega arith)
le_below (suc n) (b ∷ bs) h bytes =
    let e : 8 * suc n ≡ 8 * n + 8 = omega arith in
    let p : 2 ^ (8 * suc n) ≡ 2 ^ (8 * n) * 256 = ap (λ k. 2 ^ k) e ∙ pow-add 2 (8 * n) 8 in
    omega (arith, p, le_below n bs (omega arith) (λ i. bytes (suc i)), bytes 0)

pub le_fits : (bs : List ℕ) → length bs ≤ 4 → ((i : ℕ) → get_or bs i 0 < 256) → le_number bs < 2 ^ 32
le_fits bs h bytes = le_below 4 bs h bytes

pub le_reads : (bs : List ℕ) → length bs ≤ 4 → read_le (length bs) bs ≡ Ok (le_number bs)
le_reads bs h = rw (le-ltb 8 (length bs) (omega arith), le-ltb (length bs) (length bs) (omega arith), take_all (length bs) bs (omega arith))

pub packed_fits : (w : ℕ) (bs : List ℕ) (i : ℕ) → w ≤ 32 → packed_value w bs i < 2 ^ 32
unfolding packed_value
packed_fits w bs i h =
    let a = mod_below (le_number bs / 2 ^ (i * w)) (2 ^ w) (pow_pos w) in
    let b : 2 ^ w ≤ 2 ^ 32 = pow_mono h in
    omega (arith, a, b)
