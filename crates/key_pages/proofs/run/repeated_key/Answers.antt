use Rattle.std.proofs.Common.{◌≡◌, arith}
use Rattle.page_format.specs.Bits.{le_number}
use Rattle.key_pages.proofs.Fields.{le_reads, le_fits}
use Rattle.key_pages.proofs.run.repeated_key.Goals as goal

pub overflow_cast-result : goal.overflow_cast-result
overflow_cast-result c =
    let e : c.unwrap.result ≡ le_number c.args.value.now = cc (c.unwrap.ensures, c.read_le.ensures, le_reads c.args.value.now c.requires.short) in
    omega (arith, le_fits c.args.value.now c.requires.short (λ i. omega (arith, c.type_inv.value i)))
