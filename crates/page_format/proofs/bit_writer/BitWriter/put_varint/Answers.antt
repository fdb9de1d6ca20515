use Rattle.std.proofs.Common.{◌≡◌, ◌++◌, length, sym, ap, ◌∙◌, arith}
use Rattle.std.proofs.lemmas.List.{append_assoc}
use Rattle.page_format.specs.Bits.{varint}
use Rattle.page_format.proofs.Varints.{varint_more, varint_last}
use Rattle.page_format.proofs.Writing.{since_more, since_all, since_room}
use Rattle.page_format.proofs.bit_writer.BitWriter.put_varint.Goals as goal

pub put_byte-requires : goal.put_byte-requires
put_byte-requires c = omega (arith, since_room _ _ c.loop-left.invariant c.requires, ap length (varint_more c.loop-left.left c.loop-left-test.true))

pub loop-left-preserved : goal.loop-left-preserved
loop-left-preserved c = since_more _ _ _ c.loop-left.invariant c.put_byte.ensures (λ front is.
    append_assoc front _ _ ∙ ap (λ t. front ++ t) (sym (varint_more c.loop-left.left c.loop-left-test.true)) ∙ is)

pub put_byte-requires-2 : goal.put_byte-requires-2
put_byte-requires-2 c = omega (arith, since_room _ _ c.loop-left.invariant c.requires, ap length (varint_last c.loop-left.left c.loop-left-test.false))

pub returns : goal.returns
returns c = since_all _ (since_more _ (λ front. front ≡ varint c.args.number) _ c.loop-left.invariant c.put_byte-2.ensures (λ front is.
    ap (λ t. front ++ t) (sym (varint_last c.loop-left.left c.loop-left-test.false)) ∙ is))
