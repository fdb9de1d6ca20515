use Rattle.std.proofs.Common.{◌≡◌, ◌*◌, take}
use Rattle.page_text.specs.Pages.{hex}
use Rattle.page_text.proofs.writer.block_text.Given as goal

abbrev pub invariant-loop-i : goal.invariant-loop-i
invariant-loop-i l = take (2 * l.i) l.room ≡ hex (take l.i l.block)
