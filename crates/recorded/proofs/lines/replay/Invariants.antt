use Rattle.recorded.proofs.Asking.{Along}
use Rattle.recorded.proofs.lines.replay.Given as goal

abbrev pub invariant-loop-line : goal.invariant-loop-line
invariant-loop-line g l = record {
  can_next : (goal.iterator-loop-line g).can_next l.line-iterator;
  ends : (goal.iterator-loop-line g).is_finite l.line-iterator;
  along : Along g.A.Fn l.answer g.D.Fn l.differs l.yielded l.command l.tally;
}
