use Rattle.std.proofs.Common.{◌≡◌, take, sym, ap, ◌∙◌, subst}
use Rattle.page_format.specs.Bits.{le_bytes}
use Rattle.page_format.specs.Writes.{Appends}
use Rattle.page_format.proofs.Endian.{take-le, le_eight}
use Rattle.page_format.proofs.bit_writer.BitWriter.put_le.Goals as goal

pub returns : goal.returns
returns c =
    let low : take c.args.n c.to_le_bytes.result ≡ le_bytes c.args.n c.args.number =
    ap (take c.args.n) (c.to_le_bytes.ensures ∙ sym (le_eight c.args.number)) ∙ take-le c.args.n 8 c.args.number c.requires.few in
    subst (λ t. Appends t c.args.self.now c.put_bytes.new.self) low c.put_bytes.ensures
