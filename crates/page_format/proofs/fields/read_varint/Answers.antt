use Rattle.std.proofs.Common.{◌≡◌, ◌+◌, ◌*◌, ◌^◌, ◌<◌, ◌≤◌, ◌%◌, length, get_or, refl, sym, ap, ◌∙◌, rules, arith}
use Rattle.std.proofs.lemmas.List.{get_or_read_under}
use Rattle.page_format.specs.Bits.{sevens}
use Rattle.page_format.proofs.Varints.{Seven, continued_le, continued_more, continued_stop, seven_more, read_long, read_cut, read_whole, read_large}
use Rattle.page_format.proofs.fields.read_varint.Goals as goal
use Rattle.page_format.proofs.fields.read_varint.Goals.{After-from}

within : (c : After-from) → c.loop-i.i < length c.args.bytes.now
within c = search (rules, c.in-Some.ensures.lookup)

byte_is : (c : After-from) → get_or c.args.bytes.now c.loop-i.i 0 ≡ c.in-Some.byte.now
byte_is c = sym (get_or_read_under c.args.bytes.now c.loop-i.i (length c.args.bytes.now) c.in-Some.byte.now 0 c.in-Some.ensures.lookup.1 (within c) refl)

seven : (c : After-from) → Seven c.args.bytes.now c.loop-i.i (c.loop-i.value + c.from.result * 2 ^ (7 * c.loop-i.i) % 2 ^ 64)
seven c =
    let v = c.loop-i.invariant in
    seven_more c.args.bytes.now c.loop-i.value c.loop-i.i c.from.result c.loop-i-test.true (within c) (c.from.ensures ∙ ap (λ b. b % 128) (sym (byte_is c))) v.value v.small

pub loop-i-init : goal.loop-i-init
unfolding sevens
loop-i-init c = record { goes_on = omega arith; value = refl; small = omega arith }

pub returns-in_default : goal.returns-in_default
returns-in_default c =
    let past : length c.args.bytes.now ≤ c.loop-i.i = search (rules, c.in_default.ensures.lookup) in
    sym (read_cut c.args.bytes.now (omega (arith, c.loop-i.invariant.goes_on)) (omega (arith, continued_le c.args.bytes.now)))

pub returns-then-value : goal.returns-then-value
returns-then-value c =
    let at = (goal.at.returns-then-value c).After-from in
    let s = seven at in
    sym (read_whole c.args.bytes.now c.loop-i.i _ (continued_stop c.args.bytes.now c.loop-i.i (within at) c.loop-i.invariant.goes_on (omega (arith, byte_is at, c.if-byte-lt128.true))) c.loop-i-test.true (within at) s.value c.if-value.true)

pub returns-else-value : goal.returns-else-value
returns-else-value c =
    let at = (goal.at.returns-else-value c).After-from in
    let s = seven at in
    sym (read_large c.args.bytes.now c.loop-i.i _ (continued_stop c.args.bytes.now c.loop-i.i (within at) c.loop-i.invariant.goes_on (omega (arith, byte_is at, c.if-byte-lt128.true))) c.loop-i-test.true (within at) s.value c.if-value.false)

pub loop-i-preserved : goal.loop-i-preserved
loop-i-preserved c =
    let at = (goal.at.loop-i-preserved c).After-from in
    let s = seven at in
    record { goes_on = continued_more c.args.bytes.now c.loop-i.i (within at) c.loop-i.invariant.goes_on (omega (arith, byte_is at, c.if-byte-lt128.false)); value = s.value; small = s.small }

pub returns : goal.returns
returns c = sym (read_long c.args.bytes.now (omega (arith, c.loop-i.invariant.goes_on)))
