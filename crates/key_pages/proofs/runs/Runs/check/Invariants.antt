use Rattle.std.proofs.Common.{◌≡◌}
use Rattle.key_pages.specs.Coming.{walk_from}
use Rattle.key_pages.proofs.runs.Runs.check.Given as goal

abbrev pub invariant-loop-self : goal.invariant-loop-self
invariant-loop-self l = (walk_from l.self).fault ≡ (walk_from l.initial.self).fault

abbrev pub decreases-loop-self : goal.decreases-loop-self
decreases-loop-self l = l.self.left
