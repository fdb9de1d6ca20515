use Rattle.std.proofs.Common.{rules}
use Rattle.std.proofs.lemmas.List.{length-map}
use Rattle.arrays.proofs.Deciding.{answers_broken}
use Rattle.arrays.proofs.binary.BinaryArray.check.Goals as goal

pub returns-in-Some : goal.returns-in-Some
returns-in-Some g c =
    record {
      answers = answers_broken _ _ _ (λ h. search (rules, length-map)) (λ h. search (rules, length-map)) c.in-Some.ensures.first c.new-in-Some.ensures;
    }
