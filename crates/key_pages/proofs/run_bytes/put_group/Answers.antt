use Rattle.std.proofs.Common.{◌≡◌, ap, subst}
use Rattle.page_format.specs.Bits.{packed_bytes, low_bits}
use Rattle.page_format.specs.Writes.{Appends}
use Rattle.page_format.proofs.Writing.{appends_done}
use Rattle.key_pages.proofs.Writes.{low_same}
use Rattle.key_pages.proofs.run_bytes.put_group.Goals as goal

pub returns : goal.returns
returns c =
    let w = c.args.width.bits in
    let is : packed_bytes c.bits.result (low_bits c.bits.result c.args.group) ≡ packed_bytes w c.args.group =
    rw c.bits.ensures (ap (packed_bytes w) (low_same w c.args.group c.requires.inside)) in
    record { wrote = subst (λ t. Appends t c.args.out.now c.pack.new.self) is (appends_done _ _ _ _ _ _ c.pack.ensures.written c.unwrap.ensures) }
