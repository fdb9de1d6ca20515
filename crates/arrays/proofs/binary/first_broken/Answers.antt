use Rattle.std.proofs.lemmas.List.{length-map}
use Rattle.std.proofs.Common.{arith}
use Rattle.arrays.proofs.Cutting.{kept_more, kept_broken, number_read}
use Rattle.arrays.proofs.binary.first_broken.Goals as goal

pub returns-in_default : goal.returns-in_default
returns-in_default g c =
    let is = number_read g.O.ArrowNativeType.number _ _ _ c.loop-j-test.true c.index-offsets-j.is in
    record { first = kept_broken _ _ _ _ c.loop-j.invariant _ is c.in_default.ensures.passes (omega (arith, length-map c.args.offsets.now g.O.ArrowNativeType.number)) }

pub loop-j-preserved : goal.loop-j-preserved
loop-j-preserved g c =
    let is = number_read g.O.ArrowNativeType.number _ _ _ c.loop-j-test.true c.index-offsets-j.is in
    kept_more _ _ _ _ c.loop-j.invariant _ _ is c.in-Some.ensures.passes
