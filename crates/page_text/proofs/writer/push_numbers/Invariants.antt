use Rattle.std.proofs.Common.{◌≡◌, ℕ, List, ◌++◌, string_bytes}
use Rattle.std.specs.Slice.Iter.{chunks_rest}
use Rattle.page_text.specs.Written.{spaced}
use Rattle.page_text.proofs.writer.push_numbers.Given as goal

abbrev pub invariant-loop-piece : goal.invariant-loop-piece
invariant-loop-piece l = record {
  can_next : goal.iterator-loop-piece.can_next l.piece-iterator;
  is_finite : goal.iterator-loop-piece.is_finite l.piece-iterator;
  written : (done : List ℕ) × (string_bytes l.out ≡ string_bytes l.fn.out ++ spaced done) × (l.numbers ≡ done ++ chunks_rest l.piece-iterator);
}
