use Rattle.std.proofs.Common.{◌+◌, length, refl}
use Rattle.page_format.proofs.Writing.{wrote_copy}
use Rattle.page_format.proofs.bit_writer.BitWriter.put_bytes.Goals as goal

pub returns : goal.returns
returns c =
    let w = c.args.self.now in
    record {
      same_buffer = refl;
      wrote = wrote_copy c.args.bytes.now w.at w.bytes.now (w.at + length c.args.bytes.now) c.copy_from_slice.new.self c.copy_from_slice.ensures.after refl c.requires;
    }
