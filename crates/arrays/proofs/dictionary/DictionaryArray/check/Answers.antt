use Rattle.std.proofs.Common.{arith}
use Rattle.arrays.proofs.Deciding.{answers_broken}
use Rattle.arrays.proofs.dictionary.DictionaryArray.check.Goals as goal

pub returns-in-Some : goal.returns-in-Some
returns-in-Some g c =
    record {
      answers = answers_broken _ _ _ (λ h. omega arith) (λ none. none) (rw c.len.ensures.length at c.in-Some.ensures.first) c.new-in-Some.ensures;
    }
