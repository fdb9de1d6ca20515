use Rattle.std.proofs.Common.{refl, arith}
use Rattle.page_format.proofs.Packing.{packed_reads_back, packed_length, row_length}
use Rattle.page_format.proofs.bit_writer.BitWriter.pack.Goals as goal

pub returns-then-width-gt64-clause-reads_back : goal.returns-then-width-gt64-clause-reads_back
returns-then-width-gt64-clause-reads_back c = packed_reads_back

pub returns-then-width-gt64-clause-long : goal.returns-then-width-gt64-clause-long
returns-then-width-gt64-clause-long c = packed_length

pub returns-then-len-room : goal.returns-then-len-room
returns-then-len-room c = record {
  written = ((λ few room. omega (arith, c.if-len-room.true, c.room.ensures, c.div_ceil-len.ensures, row_length c.args.width c.args.values.now)), refl);
  reads_back = packed_reads_back;
  long = packed_length;
}

pub returns-clause-reads_back : goal.returns-clause-reads_back
returns-clause-reads_back c = packed_reads_back

pub returns-clause-long : goal.returns-clause-long
returns-clause-long c = packed_length
