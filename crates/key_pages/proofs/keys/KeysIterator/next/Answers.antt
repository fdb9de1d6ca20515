use Rattle.std.proofs.Common.{arith}
use Rattle.key_pages.specs.Coming.{keys_to_come}
use Rattle.key_pages.proofs.Stepping.{key_gives, progress}
use Rattle.key_pages.proofs.keys.KeysIterator.next.Goals as goal

pub returns-clause-steps : goal.returns-clause-steps
returns-clause-steps c =
    key_gives c.args.self.now c.current.new.self c.in_ok-run.run' c.key-key.result (let left = c.if-self-eq0.false in omega arith)
    c.in_ok-run.ensures.current c.key-key.ensures.value

pub returns-clause-goes : goal.returns-clause-goes
returns-clause-goes c = progress (λ x. x) keys_to_come _ _ _ (returns-clause-steps c)
