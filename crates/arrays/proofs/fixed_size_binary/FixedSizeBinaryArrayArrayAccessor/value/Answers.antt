use Rattle.std.proofs.Common.{◌+◌, ◌*◌, ◌≤◌, ltb-true, rules, arith, length}
use Rattle.arrays.proofs.Values.{ends_within}
use Rattle.arrays.proofs.fixed_size_binary.FixedSizeBinaryArrayArrayAccessor.value.Goals as goal

pub then-requires : goal.then-requires
then-requires c = λ t.
    let s = c.args.self.now in
    let e : (c.args.i + 1) * c.bytes-width.result ≤ length s.bytes.items = rw c.bytes-width.ensures (ends_within _ _ _ s.width.some (omega (arith, ltb-true _ _ t))) in
    search rules
