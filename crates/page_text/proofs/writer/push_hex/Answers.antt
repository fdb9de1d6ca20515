use Rattle.std.proofs.Common.{[], ◌++◌, string_bytes, sym, ap, ◌∙◌, append_assoc, append-nil, rules}
use Rattle.std.specs.Slice.Iter.{chunks_rest}
use Rattle.page_text.specs.Pages.{hex}
use Rattle.page_text.proofs.Hexes.{hex_append}
use Rattle.page_text.proofs.writer.push_hex.Goals as goal

pub loop-block-init : goal.loop-block-init
unfolding hex
loop-block-init c = record { can_next = search rules; is_finite = tt; size = search rules; written = ([], sym (append-nil (string_bytes c.args.out.now)), search rules) }

pub loop-block-preserved : goal.loop-block-preserved
loop-block-preserved c =
    let was = string_bytes c.args.out.now in
    let block = c.in-Some.block.now in
    let steps = c.in-Some.ensures.steps in
    let so_far = c.loop-block.invariant.written in
    record {
      can_next = search rules;
      is_finite = tt;
      size = steps.0 ∙ c.loop-block.invariant.size;
      written = (
        so_far.0 ++ block,
        c.in_ok-push_str.ensures.bytes ∙ ap (λ t. string_bytes c.loop-block.out ++ t) c.block_text.ensures ∙ ap (λ t. t ++ hex block) so_far.1 ∙ append_assoc was (hex so_far.0) (hex block) ∙ ap (λ t. was ++ t) (sym (hex_append so_far.0 block)),
        so_far.2 ∙ ap (λ t. so_far.0 ++ t) steps.1.0 ∙ sym (append_assoc so_far.0 block (chunks_rest c.next.new.self)),
      );
    }
