use Rattle.std.proofs.Common.{ap, arith}
use Rattle.key_pages.specs.Coming.{keys_to_come}
use Rattle.key_pages.proofs.Noting.{starts, room, adds, ends}
use Rattle.key_pages.proofs.keys.Keys.list_once.Goals as goal

pub loop-key-init : goal.loop-key-init
loop-key-init c = starts _ _ _ (ap keys_to_come c.into_iter-key-iterator.ensures.into_iter_gives) c.requires.few

pub bounds-used-number : goal.bounds-used-number
bounds-used-number c = omega (arith, room _ _ _ _ _ _ c.loop-key.invariant _ _ c.in-Some.ensures.steps c.if-not-seen-key.true)

pub loop-key-preserved-then-not-seen-key : goal.loop-key-preserved-then-not-seen-key
loop-key-preserved-then-not-seen-key c =
    adds _ _ _ _ _ _ c.loop-key.invariant _ _ c.in-Some.ensures.steps c.if-not-seen-key.true
    (bounds-used-number c)

pub returns : goal.returns
returns c = record { once = ends _ _ _ _ _ _ c.loop-key.invariant c.in-None.ensures.steps.0 (omega arith) }
