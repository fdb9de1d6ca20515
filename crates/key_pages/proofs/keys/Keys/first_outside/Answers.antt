use Rattle.std.proofs.Common.{◌<◌, ◌≤◌, refl, rules}
use Rattle.std.proofs.lemmas.Iterator.{IsFirst-from_position}
use Rattle.std.proofs.lemmas.Iterator.Consumers.{YieldsList-from_first}
use borrow.Author.Tests.{tests}
use Rattle.key_pages.specs.Coming.{keys_to_come}
use Rattle.key_pages.proofs.Opens.{outside_first}
use Rattle.key_pages.proofs.keys.Keys.first_outside.Goals as goal

pub returns : goal.returns
returns c =
    let from = YieldsList-from_first (λ x. x) keys_to_come {s = c.args.self} _ refl in
    record {
      first = outside_first _ _ _ (IsFirst-from_position c.position.new.self _ c.position.result (λ key. c.args.entries ≤ key) (λ key. key < c.args.entries) c.position.ensures.ran from
          (λ x q k. search (rules, tests)) (λ x q k. search (rules, tests)));
    }
