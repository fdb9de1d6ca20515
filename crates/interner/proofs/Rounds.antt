-- The slots as a walk comes to them: those from its start on, and then those before it.
use Rattle.std.proofs.Common.{◌≡◌, ℕ, ◌+◌, ◌-◌, ◌%◌, ◌<◌, ◌≤◌, false, Some, Option, arith}
use Rattle.std.specs.Bool.{MatchBool}
use Rattle.std.specs.declared.iter.Chain.{Chain}
use Rattle.std.specs.declared.ops.Range.{Range}
use Rattle.std.specs.Iterator.Adapters.{chain_steps}
use Rattle.std.specs.Range.{range_steps}
use Rattle.page_format.specs.Limits.{table_slots}
use Rattle.interner.specs.Tables.{place_of}

abbrev pub Round : Type 0
Round = Chain (Range ℕ) (Range ℕ)

abbrev range_next : Range ℕ → Option ℕ → Range ℕ → Type 0
range_next = range_steps (λ a b. b - a) (λ a b. b ≡ a + 1)

abbrev pub next : Round → Option ℕ → Round → Type 0
next = chain_steps range_next range_next

-- n slots of the walk from the hash h have come
pub record Came (h : ℕ) (r : Round) (n : ℕ) : Type 0 where
  pub more : r.b_done ≡ false
  pub last : r.b.end ≡ h % table_slots
  pub there : MatchBool r.a_done ((h % table_slots + n ≡ table_slots + r.b.start) × (r.b.start ≤ r.b.end)) ((r.a.start ≡ h % table_slots + n) × (r.a.start ≤ table_slots) × (r.a.end ≡ table_slots) × (r.b.start ≡ 0))

pub came_one : (h n x : ℕ) (r s : Round) → Came h r n → next r (Some x) s → (n < table_slots) × (x ≡ place_of h n) × Came h s (n + 1)
came_one h n x r s c t = grind arith
