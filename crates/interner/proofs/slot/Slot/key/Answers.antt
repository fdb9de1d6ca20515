use Rattle.std.proofs.Common.{◌≡◌, ◌≢◌, ℕ, zero, suc, ◌-◌, Some, refl, ap, arith, rules}
use Rattle.interner.specs.Slots.{slot_of_number}
use Rattle.interner.proofs.slot.Slot.key.Goals as goal

names_one_less : (n : ℕ) → n ≢ 0 → Some (n - 1) ≡ slot_of_number n
names_one_less zero some = absurd (some refl)
names_one_less (suc k) some = ap Some (omega arith)

pub returns-in-0 : goal.returns-in-0
returns-in-0 c = rw (← c.self.view_is, c.in-0.is) refl

pub returns-in_default : goal.returns-in_default
returns-in_default c = rw (c.from.ensures, ← c.self.view_is) (names_one_less c.self.inside.name (search rules))
