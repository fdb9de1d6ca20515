-- How two bytes hold a slot: 0 where it is empty, and k + 1 where it names the entry k.
use Rattle.std.specs.Prelude.{◌≡◌, ℕ, zero, suc, Some, None, Option, refl}

abbrev pub slot_of_number : ℕ → Option ℕ
slot_of_number zero = None
slot_of_number (suc k) = Some k

abbrev pub number_of_slot : Option ℕ → ℕ
number_of_slot None = 0
number_of_slot (Some k) = suc k

pub number_of_slot_of_number : (n : ℕ) → number_of_slot (slot_of_number n) ≡ n
number_of_slot_of_number zero = refl
number_of_slot_of_number (suc k) = refl
