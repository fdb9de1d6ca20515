use Rattle.std.proofs.Common.{◌≡◌, ℕ, List, ◌++◌, string_bytes}
use Rattle.std.specs.Slice.Iter.{chunks_rest, chunks_size}
use Rattle.page_text.specs.Pages.{hex}
use Rattle.page_text.specs.declared.writer.TheConstants.{BLOCK}
use Rattle.page_text.proofs.writer.push_hex.Given as goal

abbrev pub invariant-loop-block : goal.invariant-loop-block
invariant-loop-block l = record {
  can_next : goal.iterator-loop-block.can_next l.block-iterator;
  is_finite : goal.iterator-loop-block.is_finite l.block-iterator;
  size : chunks_size l.block-iterator ≡ BLOCK;
  written : (done : List ℕ) × (string_bytes l.out ≡ string_bytes l.fn.out ++ hex done) × (l.bytes ≡ done ++ chunks_rest l.block-iterator);
}
