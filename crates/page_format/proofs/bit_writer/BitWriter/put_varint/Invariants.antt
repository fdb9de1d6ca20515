use Rattle.std.proofs.Common.{◌≡◌, ◌++◌}
use Rattle.page_format.specs.Bits.{varint}
use Rattle.page_format.proofs.Writing.{Since}
use Rattle.page_format.proofs.bit_writer.BitWriter.put_varint.Given as goal

-- what is written and what is left of the number are the whole varint
abbrev pub invariant-loop-left : goal.invariant-loop-left
invariant-loop-left l = Since (λ front. front ++ varint l.left ≡ varint l.number) l.initial.self l.self

abbrev pub decreases-loop-left : goal.decreases-loop-left
decreases-loop-left l = l.left
