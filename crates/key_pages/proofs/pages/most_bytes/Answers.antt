use Rattle.std.proofs.Common.{◌≡◌, ◌+◌, ◌*◌, ◌/◌, ap₂, arith}
use Rattle.std.proofs.lemmas.Nat.{mul-le}
use Rattle.key_pages.proofs.Writes.{parts_eight}
use Rattle.key_pages.proofs.pages.most_bytes.Goals as goal

pub overflow_mul-result : goal.overflow_mul-result
overflow_mul-result c =
    let n : c.ceil.result ≡ (c.args.count + 7) / 8 = parts_eight c.args.count c.ceil.result (c.ceil.ensures.least (omega arith)) in
    omega (arith, c.bits.ensures, c.args.width.narrow, mul-le c.ceil.result (1 + c.bits.result) 2048 33 (omega arith) (omega (arith, c.bits.ensures, c.args.width.narrow)))

pub returns : goal.returns
returns c =
    let n = parts_eight c.args.count c.ceil.result (c.ceil.ensures.least (omega arith)) in
    record { most = ap₂ (λ t w. t * (1 + w)) n c.bits.ensures }
