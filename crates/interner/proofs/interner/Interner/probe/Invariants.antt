use Rattle.std.proofs.Common.{length}
use Rattle.interner.specs.Tables.{Passed}
use Rattle.interner.proofs.Rounds.{Came}
use Rattle.interner.proofs.interner.Interner.probe.Given as goal

abbrev pub invariant-loop-at : goal.invariant-loop-at
invariant-loop-at g l =
    let hash = g.H.KeyHash.hashed l.self.hash l.value in
    record {
      can_next : (goal.iterator-loop-at g).can_next l.at-iterator;
      is_finite : (goal.iterator-loop-at g).is_finite l.at-iterator;
      came : Came hash l.at-iterator (length l.yielded);
      passed : Passed (g.S.Storage.entries l.self.storage) l.self.slots hash l.value (length l.yielded);
    }
