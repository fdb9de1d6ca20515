use Rattle.std.proofs.Common.{◌≡◌, ◌+◌, ◌*◌, ◌/◌, ◌<◌, [], get_or, length, vec_items, sym, ap, ◌∙◌, rules, arith}
use Rattle.std.proofs.ByRecursion.{All-get_or}
use borrow.Author.Tests.{false-eqb}
use Rattle.page_text.specs.Pages.{hex}
use Rattle.page_text.proofs.Hexes.{length-hex, get_or_hex, get_or_first_chunks, hex_pair_more, BytesPush}
use Rattle.page_text.proofs.words.hex_bytes.Goals as goal
use Rattle.page_text.proofs.words.hex_bytes.Goals.{In-loop-high}

pub returns-then-not-is_empty : goal.returns-then-not-is_empty
returns-then-not-is_empty c = record {
  reads = λ bs small e. omega (arith, ap length e, length-hex bs, c.as_chunks.ensures.back_len, false-eqb, c.if-not-is_empty.ensures);
}

pub loop-high-init : goal.loop-high-init
unfolding hex
loop-high-init c = search rules

-- the digits that this turn reads
digits : (c : In-loop-high) → let pair = get_or c.as_chunks.result.0.now c.loop-high.high-index [] in
    (get_or pair 0 0 ≡ get_or c.args.word.now (2 * c.loop-high.high-index) 0) × (get_or pair 1 0 ≡ get_or c.args.word.now (2 * c.loop-high.high-index + 1) 0)
digits c = rw c.as_chunks.ensures.front (get_or_first_chunks c.args.word.now (length c.args.word.now / 2) c.loop-high.high-index (omega (arith, c.as_chunks.ensures.front_len)))

pub returns-in_default : goal.returns-in_default
returns-in_default c = record {
  reads = λ bs small e.
      let i = c.loop-high.high-index in
      let inside : i < length bs = omega (arith, ap length e, length-hex bs, c.as_chunks.ensures.front_len) in
      let read = digits (goal.at.returns-in_default c).In-loop-high in
      let written = get_or_hex bs i inside in
      c.in_default.ensures.reads (get_or bs i 0) (All-get_or (λ b. b < 256) bs i 0 inside small)
      (read.0 ∙ ap (λ t. get_or t (2 * i) 0) e ∙ written.0) (read.1 ∙ ap (λ t. get_or t (2 * i + 1) 0) e ∙ written.1);
}

pub loop-high-preserved : goal.loop-high-preserved
loop-high-preserved c =
    let pair = c.in-Some.ensures.reads in
    let items = c.in_ok-push.ensures.items in
    let read = digits (goal.at.loop-high-preserved c).In-loop-high in (
      hex_pair_more c.args.word.now (vec_items c.loop-high.bytes) (vec_items c.push.new.self) c.loop-high.high-index c.in-Some.byte
          (omega (arith, c.as_chunks.ensures.front_len)) items c.loop-high.invariant.0 (sym read.0 ∙ pair.1) (sym read.1 ∙ pair.2),
      BytesPush (vec_items c.loop-high.bytes) (vec_items c.push.new.self) c.in-Some.byte items c.loop-high.invariant.1 pair.0,
    )
