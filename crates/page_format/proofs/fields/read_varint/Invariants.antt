use Rattle.std.proofs.Common.{◌≡◌, ◌*◌, ◌^◌, ◌<◌, ◌≤◌, take}
use Rattle.page_format.specs.Bits.{sevens, continued}
use Rattle.page_format.proofs.fields.read_varint.Given as goal

-- every byte so far goes on, and their sevens are in
abbrev pub invariant-loop-i : goal.invariant-loop-i
invariant-loop-i l = record {
  goes_on : l.i ≤ continued l.bytes;
  value : l.value ≡ sevens (take l.i l.bytes);
  small : l.value < 2 ^ (7 * l.i);
}
