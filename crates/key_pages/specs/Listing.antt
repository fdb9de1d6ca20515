-- The keys that a page uses, each once.
use Rattle.std.specs.Prelude.{◌≡◌, ℕ, ◌<◌, ◌≤◌, List, length, take, drop, Ok, Err, Result, ◌≢◌, slice_index}
use Rattle.std.specs.List.{ContainsAt as Has}
use Rattle.page_format.specs.declared.fault.Fault.{Fault}

-- the first n places hold each of the keys once, and every place behind is as it was before
pub record ListsOnce (keys before : List ℕ) (n : ℕ) (after : List ℕ) : Type 0 where
  pub within : n ≤ length after
  pub distinct : (i j : ℕ) → i < j → j < n → slice_index after i ≢ slice_index after j
  pub used : (i : ℕ) → i < n → Has keys (slice_index after i)
  pub each : (key : ℕ) → Has keys key → Has (take n after) key
  pub behind : drop n after ≡ drop n before

abbrev pub Listed : List ℕ → List ℕ → Result ℕ Fault → List ℕ → Type 0
Listed keys before (Ok n) after = ListsOnce keys before n after
Listed keys before (Err f) after = ⊥
