use Rattle.std.proofs.Common.{arith, sym}
use Rattle.arrays.proofs.Values.{no_value, one_value}
use Rattle.arrays.proofs.binary.BinaryArrayArrayAccessor.value.Goals as goal

pub returns-in_err-from : goal.returns-in_err-from
returns-in_err-from g c =
    let none = simp c.deref.ensures.value at c.in_err-from.ensures.place in
    rw c.from_residual.ensures (record { value = no_value _ _ _ _ _ c.args.self.now.fit none (omega arith) })

pub returns-in_err-to : goal.returns-in_err-to
returns-in_err-to g c =
    let none = simp c.deref-2.ensures.value at c.in_err-to.ensures.place in
    rw c.from_residual-in_err-to.ensures (record { value = no_value _ _ _ _ _ c.args.self.now.fit none (omega arith) })

pub returns : goal.returns
returns g c =
    let from = simp c.deref.ensures.value at c.in_ok-from.ensures.place in
    let to = simp c.deref-2.ensures.value at c.in_ok-to.ensures.place in
    let one = one_value _ c.args.self.now.bytes.items _ _ _ from to in
    rw c.deref-3.ensures.value (record { value = (one.0, sym one.1) })
