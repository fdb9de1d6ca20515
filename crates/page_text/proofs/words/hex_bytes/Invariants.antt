use Rattle.std.proofs.Common.{◌≡◌, ◌*◌, take, vec_items}
use Rattle.page_text.specs.Pages.{hex, Bytes}
use Rattle.page_text.proofs.words.hex_bytes.Given as goal

abbrev pub invariant-loop-high : goal.invariant-loop-high
invariant-loop-high l = (take (2 * l.high-index) l.word ≡ hex (vec_items l.bytes)) × Bytes (vec_items l.bytes)
