use Rattle.std.proofs.Common.{◌≡◌, vec_len, arith}
use Rattle.arrays.proofs.Deciding.{answers_passed}
use Rattle.arrays.proofs.binary.BinaryArray.open.Goals as goal

pub returns-in_err-check-clause-answers : goal.returns-in_err-check-clause-answers
returns-in_err-check-clause-answers g c =
    let same : c.len.result ≡ vec_len c.args.bytes = omega arith in
    answers_passed _ _ _ c.from_residual.ensures.1 (rw (c.deref.ensures.value, same) at c.in_err-check.ensures.answers)
