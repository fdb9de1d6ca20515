use Rattle.std.proofs.Common.{length, rules}
use Rattle.interner.proofs.Rounds.{came_one}
use Rattle.interner.proofs.interner.Interner.probe.Goals as goal

pub returns-in_default : goal.returns-in_default
returns-in_default g c =
    let (within, there, _) = came_one _ _ _ _ _ c.loop-at.invariant.came c.in-Some.ensures.steps in
    record { steps = length c.loop-at.yielded; within = within; there = there; empty = search rules; passed = c.loop-at.invariant.passed }
