use Rattle.std.proofs.Common.{◌≡◌, ◌+◌, ◌*◌, ◌%◌, ◌^◌, ◌<◌, length, get_or, sym, ap, ◌∙◌, subst, arith}
use lib.Bits.{bit_or}
use Rattle.std.proofs.lemmas.Nat.{pow_pos, mod_below}
use Rattle.page_format.specs.Bits.{packed_bytes, low_bits}
use Rattle.page_format.proofs.Packing.{row_start, absorbs, row_room, row_keeps, row_writes, row_ends}
use Rattle.page_format.proofs.Writing.{since_none, since_more, since_all, since_same, appends_length}
use Rattle.page_format.proofs.bit_writer.BitWriter.put_packed.Goals as goal
use Rattle.page_format.proofs.bit_writer.BitWriter.put_packed.Goals.{then-bits-ge64, else-bits-ge64}

pub loop-value-init : goal.loop-value-init
loop-value-init c = since_none _ _ (row_start c.args.width c.args.values.now)

pub put_le-requires-clause-room : goal.put_le-requires-clause-room
put_le-requires-clause-room c =
    let s = c.loop-value.invariant in
    omega (arith, c.requires.room, s.appends.wrote.end_is, appends_length s.appends, row_room _ _ _ _ _ _ s.holds c.loop-value-test.true c.if-bits-ge64.true)

pub loop-value-preserved : goal.loop-value-preserved
loop-value-preserved c =
    let w = c.args.width in
    let vs = c.args.values.now in
    let bits = c.loop-value.bits in
    let held = c.loop-value.held in
    let i = c.loop-value.value-index in
    let row = c.loop-value.invariant.holds in
    let low : c.from.result ≡ get_or vs i 0 % 2 ^ w = c.from.ensures ∙ c.trailing_bits.ensures in
    let fits : c.from.result < 2 ^ w = subst (λ t. t < 2 ^ w) (sym low) (mod_below (get_or vs i 0) (2 ^ w) (pow_pos w)) in
    let a = absorbs w bits held c.from.result row.few c.requires.narrow row.small fits in
    let is : bit_or held (c.from.result * 2 ^ bits % 2 ^ 128) ≡ held + 2 ^ bits * (get_or vs i 0 % 2 ^ w) = a.0 ∙ ap (λ t. held + 2 ^ bits * t) low in
    let small : bit_or held (c.from.result * 2 ^ bits % 2 ^ 128) < 2 ^ (bits + w) = subst (λ t. t < 2 ^ (bits + w)) (sym a.0) a.1 in
    elim c.if-bits-ge64.branch [
      | then-bits-ge64 x ↦ rw (x.self-is, x.bits-is, x.held-is)
          (since_more _ _ _ c.loop-value.invariant x.put_le.ensures (λ front r. row_writes w vs front bits held i r c.loop-value-test.true _ is small x.if-bits-ge64.true c.requires.narrow))
      | else-bits-ge64 x ↦ rw (x.self-is, x.bits-is, x.held-is)
          (since_same _ _ c.loop-value.invariant (λ front r. row_keeps w vs front bits held i r c.loop-value-test.true _ is small x.if-bits-ge64.false))
    ]

pub put_le-requires-2-clause-room : goal.put_le-requires-2-clause-room
put_le-requires-2-clause-room c =
    let s = c.loop-value.invariant in
    let e : c.loop-value.value-index * c.args.width ≡ length c.args.values.now * c.args.width = ap (λ t. t * c.args.width) (omega arith) in
    omega (arith, c.div_ceil.ensures, c.requires.room, s.appends.wrote.end_is, appends_length s.appends, s.holds.so_far)

pub returns : goal.returns
returns c =
    let all = packed_bytes c.args.width (low_bits c.args.width c.args.values.now) in
    since_all all (since_more _ (λ front. front ≡ all) _ c.loop-value.invariant c.put_le-2.ensures (λ front r.
    row_ends c.args.width c.args.values.now front c.loop-value.bits c.loop-value.held c.loop-value.value-index c.div_ceil.result r (omega arith) (omega (arith, c.div_ceil.ensures))))
