use Rattle.std.proofs.Common.{◌≡◌, [], ◌++◌, sym, ap, ◌∙◌, append_assoc, rules}
use Rattle.std.proofs.Output.{has_written_append, has_written_of_eq}
use Rattle.std.specs.Slice.Iter.{chunks_rest}
use Rattle.page_text.specs.Pages.{hex}
use Rattle.page_text.proofs.Hexes.{hex_append}
use Rattle.page_text.proofs.writer.HexDisplay.fmt.Goals as goal

pub loop-block-init : goal.loop-block-init
unfolding hex
loop-block-init g c = record { can_next = search rules; is_finite = tt; size = search rules; written = λ plain. ([], search rules, search rules) }

pub loop-block-preserved : goal.loop-block-preserved
loop-block-preserved g c =
    let block = c.in-Some.block.now in
    let steps = c.in-Some.ensures.steps in
    record {
      can_next = search rules;
      is_finite = tt;
      size = steps.0 ∙ c.loop-block.invariant.size;
      written = λ plain.
          let so_far = c.loop-block.invariant.written plain in
          let text : hex (so_far.0 ++ block) ≡ hex so_far.0 ++ c.block_text.result.now = hex_append so_far.0 block ∙ ap (λ t. hex so_far.0 ++ t) (sym c.block_text.ensures) in (
            so_far.0 ++ block,
            has_written_of_eq _ _ _ _ _ (sym text) (has_written_append _ _ _ _ _ _ so_far.1 (search rules)),
            so_far.2 ∙ ap (λ t. so_far.0 ++ t) steps.1.0 ∙ sym (append_assoc so_far.0 block (chunks_rest c.next.new.self)),
          );
    }
