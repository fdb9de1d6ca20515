use Rattle.std.proofs.Common.{◌^◌, ◌≤◌, sym, mod-eq_of_lt, arith, pow_mono}
use Rattle.std.proofs.lemmas.Nat.{and_mask, one_shl}
use Rattle.page_format.proofs.bits.trailing_bits.Goals as goal

pub returns-then-num_bits-ge64 : goal.returns-then-num_bits-ge64
returns-then-num_bits-ge64 c = let p : 2 ^ 64 ≤ 2 ^ c.args.num_bits = pow_mono c.if-num_bits-ge64.true in sym (mod-eq_of_lt (omega arith))

pub returns-else-num_bits-ge64 : goal.returns-else-num_bits-ge64
returns-else-num_bits-ge64 c = rw (one_shl c.args.num_bits 64 c.if-num_bits-ge64.false) (and_mask c.args.v c.args.num_bits)
