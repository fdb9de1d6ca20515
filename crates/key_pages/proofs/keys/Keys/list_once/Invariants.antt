use Rattle.key_pages.specs.Coming.{keys_to_come}
use Rattle.key_pages.proofs.Noting.{Noted}
use Rattle.key_pages.proofs.keys.Keys.list_once.Given as goal

abbrev pub invariant-loop-key : goal.invariant-loop-key
invariant-loop-key l = Noted (keys_to_come l.self) l.initial.used l.seen l.number l.used (keys_to_come l.key-iterator)
