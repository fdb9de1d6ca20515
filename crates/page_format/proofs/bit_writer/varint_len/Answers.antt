use Rattle.std.proofs.Common.{arith}
use Rattle.page_format.proofs.Varints.{varint_bytes_of}
use Rattle.page_format.proofs.bit_writer.varint_len.Goals as goal

pub returns : goal.returns
returns c = varint_bytes_of c.args.number c.num_required_bits.result c.div_ceil.result c.num_required_bits.ensures (omega (arith, c.div_ceil.ensures, c.max.ensures))
