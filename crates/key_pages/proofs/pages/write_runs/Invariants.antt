use Rattle.key_pages.proofs.Finishing.{After}
use Rattle.key_pages.proofs.pages.write_runs.Given as goal

abbrev pub invariant-loop-key : goal.invariant-loop-key
invariant-loop-key l = After l.fn.width l.keys l.key-index l.initial.writer l.encoder l.writer
