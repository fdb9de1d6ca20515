use Rattle.page_format.proofs.Varints.{varint_reads_back, varint_length}
use Rattle.page_format.proofs.bit_writer.BitWriter.write_varint.Goals as goal

pub returns-then-varint_len-room-clause-reads_back : goal.returns-then-varint_len-room-clause-reads_back
returns-then-varint_len-room-clause-reads_back c = varint_reads_back

pub returns-then-varint_len-room-clause-short : goal.returns-then-varint_len-room-clause-short
returns-then-varint_len-room-clause-short c = varint_length

pub returns-clause-reads_back : goal.returns-clause-reads_back
returns-clause-reads_back c = varint_reads_back

pub returns-clause-short : goal.returns-clause-short
returns-clause-short c = varint_length
