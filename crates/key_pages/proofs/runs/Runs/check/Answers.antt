use Rattle.key_pages.proofs.Opens.{left_falls}
use Rattle.key_pages.proofs.runs.Runs.check.Goals as goal

pub loop-self-smaller : goal.loop-self-smaller
loop-self-smaller c = left_falls _ _ _ _ c.loop-self-test.true c.in_ok-advance.ensures.advanced.1
