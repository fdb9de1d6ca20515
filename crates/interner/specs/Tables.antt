-- What the slots of an interner say of its entries. A slot is empty, or names an entry by its number.
use Rattle.std.specs.Prelude.{◌≡◌, ℕ, ◌+◌, ◌%◌, ◌<◌, ◌≤◌, List, [], length, count_by, slice_index_or, Some, None, Option, is_some, IsSome, IfSome, IsSomeAnd}
use Rattle.std.specs.List.{All}
use Rattle.page_format.specs.Limits.{table_slots}
use Rattle.page_format.specs.Plain.{Bytes}
use Rattle.interner.specs.Entries.{Holds, Distinct}
use Rattle.interner.specs.declared.interner.Probe.{Probe}
use Rattle.interner.specs.declared.interner.Probe.TheVariants.{Hit, Free, Full}

-- the slot that a walk from the hash h comes to after j steps
abbrev pub place_of : ℕ → ℕ → ℕ
place_of h j = (h % table_slots + j) % table_slots

-- what that slot holds
abbrev pub slot_of : List (Option ℕ) → ℕ → ℕ → Option ℕ
slot_of slots h j = slice_index_or slots (place_of h j) None

-- the walk from the hash h comes to the entry k, past slots that are not empty
pub record Reached (slots : List (Option ℕ)) (h k : ℕ) : Type 0 where
  pub steps : ℕ
  pub within : steps < table_slots
  pub names : slot_of slots h steps ≡ Some k
  pub past : (m : ℕ) → m < steps → IsSome (slot_of slots h m)

-- every entry is reached by the walk of its hash, and the entries are distinct
pub record Sound (hash : Bytes → ℕ) (es : List Bytes) (slots : List (Option ℕ)) : Type 0 where
  pub long : length slots ≡ table_slots
  pub named : All (λ slot. IfSome slot (λ k. k < length es)) slots
  pub reached : (k : ℕ) → k < length es → Reached slots (hash (slice_index_or es k [])) k
  pub few : count_by is_some slots ≤ length es
  pub distinct : Distinct es

-- the first n slots of the walk for v are not empty, and none of them names an entry that equals v
abbrev pub Passed : List Bytes → List (Option ℕ) → ℕ → Bytes → ℕ → Type 0
Passed es slots h v n = (m : ℕ) → m < n → IsSomeAnd (slot_of slots h m) (λ k. Holds es k v → ⊥)

-- the walk for v ends at the slot i, which is empty
pub record Stops (es : List Bytes) (slots : List (Option ℕ)) (h : ℕ) (v : Bytes) (i : ℕ) : Type 0 where
  pub steps : ℕ
  pub within : steps < table_slots
  pub there : i ≡ place_of h steps
  pub empty : slice_index_or slots i None ≡ None
  pub passed : Passed es slots h v steps

abbrev pub Probed : (Bytes → ℕ) → List Bytes → List (Option ℕ) → Bytes → Probe → Type 0
Probed hash es slots v (Hit k) = Holds es k v
Probed hash es slots v (Free i) = Stops es slots (hash v) v i
Probed hash es slots v Full = Passed es slots (hash v) v table_slots
