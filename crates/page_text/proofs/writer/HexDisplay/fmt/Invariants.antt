use Rattle.std.proofs.Common.{◌≡◌, List, ℕ, ◌++◌}
use Rattle.std.specs.Fmt.{HasWritten, IsPlainFormatter}
use Rattle.std.specs.Slice.Iter.{chunks_rest, chunks_size}
use Rattle.page_text.specs.Pages.{hex}
use Rattle.page_text.specs.declared.writer.TheConstants.{BLOCK}
use Rattle.page_text.proofs.writer.HexDisplay.fmt.Given as goal

abbrev pub invariant-loop-block : goal.invariant-loop-block
invariant-loop-block g l = record {
  can_next : (goal.iterator-loop-block g).can_next l.block-iterator;
  is_finite : (goal.iterator-loop-block g).is_finite l.block-iterator;
  size : chunks_size l.block-iterator ≡ BLOCK;
  written : IsPlainFormatter l.fn.f → (done : List ℕ) × HasWritten g.W.Write.write_str_gives l.fn.f (hex done) l.f × (l.self.0.now ≡ done ++ chunks_rest l.block-iterator);
}
