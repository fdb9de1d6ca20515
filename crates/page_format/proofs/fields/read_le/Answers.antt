use Rattle.std.proofs.Common.{◌≡◌, ◌-◌, ◌*◌, ◌^◌, ◌<◌, ◌≤◌, length, take, subst, arith, pow_mono, rules}
use Rattle.std.proofs.lemmas.List.{length-take-le}
use Rattle.page_format.specs.Bits.{le_number}
use Rattle.page_format.proofs.Endian.{le_below, bytes_take}
use Rattle.page_format.proofs.fields.read_le.Goals as goal

pub overflow_cast-result : goal.overflow_cast-result
overflow_cast-result c =
    let bs = c.args.bytes.now in
    let n = c.args.n - 0 in
    let l : length (take (c.args.n - 0) bs) ≡ c.args.n - 0 = length-take-le (c.args.n - 0) bs (omega arith) in
    let b : le_number (take (c.args.n - 0) bs) < 2 ^ (8 * (c.args.n - 0)) = subst (λ t. le_number (take (c.args.n - 0) bs) < 2 ^ (8 * t)) l (le_below (take (c.args.n - 0) bs) (bytes_take (c.args.n - 0) bs (λ i. omega (arith, c.type_inv.bytes i)))) in
    let e : 8 * (c.args.n - 0) ≤ 64 = omega arith in
    let p : 2 ^ (8 * (c.args.n - 0)) ≤ 2 ^ 64 = pow_mono e in
    search (rules, b, p)
