use Rattle.std.proofs.Common.{◌≡◌, ◌*◌, length, take, ap, ◌∙◌, rules, arith}
use Rattle.std.proofs.lemmas.List.{take_all}
use Rattle.page_text.specs.Pages.{hex}
use Rattle.page_text.proofs.Hexes.{IsUtf8-hex}
use Rattle.page_text.proofs.writer.block_text.Goals as goal

pub unwrap-requires : goal.unwrap-requires
unwrap-requires c =
    let all : c.loop-i.i ≡ length c.args.block.now = omega arith in
    let written : take (2 * length c.args.block.now) c.loop-i.room ≡ hex c.args.block.now = rw (← all) (c.loop-i.invariant ∙ ap hex (take_all c.loop-i.i c.args.block.now c.loop-i-test.false)) in
    let text = IsUtf8-hex _ _ written (λ i. omega (arith, c.type_inv.block i)) in
    search rules
