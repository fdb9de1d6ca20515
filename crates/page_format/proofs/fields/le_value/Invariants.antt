use Rattle.std.proofs.Common.{◌≡◌, ◌++◌, ◌*◌, ◌^◌, ◌<◌, length, ℕ, List}
use Rattle.page_format.specs.Bits.{le_number}
use Rattle.page_format.proofs.fields.le_value.Given as goal

-- the bytes behind those that are left are in
abbrev pub invariant-loop-byte : goal.invariant-loop-byte
invariant-loop-byte l = (back : List ℕ) × (l.bytes ≡ l.byte-iterator.iter.rest.now ++ back) × (l.value ≡ le_number back) × (l.value < 2 ^ (8 * length back))
