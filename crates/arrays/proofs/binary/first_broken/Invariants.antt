use Rattle.std.proofs.Common.{map}
use Rattle.arrays.proofs.Cutting.{Kept}
use Rattle.arrays.proofs.binary.first_broken.Given as goal

abbrev pub invariant-loop-j : goal.invariant-loop-j
invariant-loop-j g l = Kept (map g.O.ArrowNativeType.number l.offsets) l.bytes l.j l.before
