use Rattle.page_format.proofs.Packing.{Row}
use Rattle.page_format.proofs.Writing.{Since}
use Rattle.page_format.proofs.bit_writer.BitWriter.put_packed.Given as goal

abbrev pub invariant-loop-value : goal.invariant-loop-value
invariant-loop-value l = Since (Row l.width l.values l.bits l.held l.value-index) l.initial.self l.self
