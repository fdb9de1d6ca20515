use Rattle.std.proofs.Common.{◌≡◌, suc, ◌+◌, ◌-◌, ◌*◌, ◌/◌, ◌%◌, ◌^◌, length, Ok, ap, ◌∙◌, add-mul, arith}
use Rattle.std.proofs.lemmas.Nat.{one_shl}
use Rattle.std.proofs.lemmas.Bool.{le-ltb}
use Rattle.page_format.specs.Bits.{packed_value}
use Rattle.page_format.proofs.Packing.{value_in}
use Rattle.page_format.proofs.fields.read_packed.Goals as goal

pub returns : goal.returns
returns c =
    let w = c.args.width in
    let i = c.args.index in
    let bs = c.args.bytes.now in
    let m : suc c.args.index * c.args.width ≡ c.args.index * c.args.width + c.args.width = omega (arith, add-mul 1 c.args.index c.args.width) in
    let v : c.le_value.result / 2 ^ (c.args.index * c.args.width % 8) % 2 ^ c.args.width ≡ packed_value c.args.width c.args.bytes.now c.args.index =
    ap (λ t. t / 2 ^ (c.args.index * c.args.width % 8) % 2 ^ c.args.width) c.le_value.ensures
    ∙ value_in c.args.width c.args.index c.args.bytes.now (c.args.index * c.args.width / 8) (c.div_ceil-last.result - c.args.index * c.args.width / 8) (c.args.index * c.args.width % 8) (λ k. omega (arith, c.type_inv.bytes k)) (omega arith) (omega (arith, c.div_ceil-last.ensures)) (omega (arith, c.div_ceil-last.ensures)) in
    rw (one_shl c.args.width 128 (omega arith), le-ltb 64 c.args.width c.if-width-gt64.false, le-ltb (8 * length c.args.bytes.now) (suc c.args.index * c.args.width) (omega (arith, c.div_ceil-last.ensures))) (ap Ok v)
