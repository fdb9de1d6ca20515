use Rattle.std.proofs.Common.{[], ◌++◌, string_bytes, sym, ap, ◌∙◌, append_assoc, append-nil, rules}
use Rattle.std.specs.Slice.Iter.{chunks_rest}
use Rattle.page_text.specs.Written.{spaced}
use Rattle.page_text.proofs.Spaces.{spaced_append}
use Rattle.page_text.proofs.writer.push_numbers.Goals as goal

pub loop-piece-init : goal.loop-piece-init
unfolding spaced
loop-piece-init c = record { can_next = search rules; is_finite = tt; written = ([], sym (append-nil (string_bytes c.args.out.now)), search rules) }

pub loop-piece-preserved : goal.loop-piece-preserved
loop-piece-preserved c =
    let was = string_bytes c.args.out.now in
    let piece = c.in-Some.piece.now in
    let steps = c.in-Some.ensures.steps in
    let so_far = c.loop-piece.invariant.written in
    record {
      can_next = search rules;
      is_finite = tt;
      written = (
        so_far.0 ++ piece,
        c.in_ok-push.ensures.appends ∙ ap (λ t. t ++ spaced piece) so_far.1 ∙ append_assoc was (spaced so_far.0) (spaced piece) ∙ ap (λ t. was ++ t) (sym (spaced_append so_far.0 piece)),
        so_far.2 ∙ ap (λ t. so_far.0 ++ t) steps.1.0 ∙ sym (append_assoc so_far.0 piece (chunks_rest c.next.new.self)),
      );
    }
