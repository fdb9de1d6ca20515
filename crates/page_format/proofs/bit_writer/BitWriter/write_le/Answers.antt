use Rattle.std.proofs.Common.{refl, arith}
use Rattle.page_format.proofs.Endian.{length-le_bytes}
use Rattle.page_format.proofs.Packing.{le_reads_back}
use Rattle.page_format.proofs.bit_writer.BitWriter.write_le.Goals as goal
use Rattle.page_format.proofs.bit_writer.BitWriter.write_le.Goals.{then-n-gt8-via-then-n-gt8, then-n-gt8-via-else-n-gt8+then-n-room}

pub returns-then-n-gt8 : goal.returns-then-n-gt8
returns-then-n-gt8 c = record {
  written = (
    (λ few room. elim c.then-n-gt8.branch [
      | then-n-gt8-via-then-n-gt8 w ↦ omega (arith, w.if-n-gt8.true)
      | then-n-gt8-via-else-n-gt8+then-n-room w ↦ omega (arith, length-le_bytes c.args.n c.args.number, w.room.ensures, w.if-n-room.true)
    ]),
    refl,
  );
  reads_back = le_reads_back;
}

pub returns-clause-reads_back : goal.returns-clause-reads_back
returns-clause-reads_back c = le_reads_back
