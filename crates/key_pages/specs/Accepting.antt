-- What it is for a key page to be accepted.
use Rattle.std.specs.Prelude.{ℕ, ◌<◌, ◌≤◌, List}
use Rattle.std.specs.List.{AllByRecursion}
use Rattle.page_format.specs.Limits.{page_values, most_entries}
use Rattle.key_pages.specs.Meaning.{ReadRun, Means, keys_of}

pub record WithinLimits (count entries : ℕ) : Type 0 where
  pub few_values : count ≤ page_values
  pub few_entries : entries ≤ most_entries

-- the page stands for these runs, and each of its keys names one of the entries
pub record Accepted (page : List ℕ) (count entries w : ℕ) (runs : List ReadRun) : Type 0 where
  pub limits : WithinLimits count entries
  pub meaning : Means page count w runs
  pub inside : AllByRecursion (λ key. key < entries) (keys_of w count runs)
