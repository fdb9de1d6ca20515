use Rattle.std.proofs.Common.{ap, ◌+◌, ◌/◌, ◌∙◌, arith}
use Rattle.key_pages.proofs.Writes.{parts_eight}
use Rattle.key_pages.proofs.width.KeyWidth.bytes.Goals as goal

pub returns : goal.returns
returns c = parts_eight c.bits.result c.ceil.result (c.ceil.ensures.least (omega arith)) ∙ ap (λ t. (t + 7) / 8) c.bits.ensures
