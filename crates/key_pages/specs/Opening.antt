-- What it is to open a key page.
use Rattle.std.specs.Prelude.{◌≡◌, ℕ, ◌<◌, ◌⊎◌, List, length}
use Rattle.page_format.specs.Faults.{Numbered}
use Rattle.page_format.specs.Limits.{page_values, most_entries}
use Rattle.page_format.specs.declared.fault.Fault.{Fault}
pub use Rattle.key_pages.specs.Accepting.{WithinLimits, Accepted}
use Rattle.key_pages.specs.Meaning.{ReadRun, Means, Malformed, keys_of, FirstOutside}
use Rattle.key_pages.specs.declared.reader.KeyPage.{KeyPage}

-- the tests in their order, and the fault of each
pub data Refused (page : List ℕ) (count entries : ℕ) (f : Fault) : Type 0 where
  above_limit : (page_values < count) ⊎ (most_entries < entries) → Numbered 2 5 0 f → Refused page count entries f
  malformed : {p : ℕ} → WithinLimits count entries → Malformed page count p → Numbered 11 5 p f → Refused page count entries f
  key_outside : {w k : ℕ} {runs : List ReadRun} → WithinLimits count entries → Means page count w runs
      → FirstOutside (keys_of w count runs) entries k → Numbered 12 5 k f → Refused page count entries f

-- what a page that was opened holds
pub record Opened (page : List ℕ) (count entries : ℕ) (p : KeyPage) : Type 0 where
  pub page_is : p.page.now ≡ page
  pub count_is : p.count ≡ count
  pub entries_is : p.entries ≡ entries
  pub accepted : (w : ℕ) × (runs : List ReadRun) × Accepted page count entries w runs

-- P holds of the width and the runs that an opened page stands for. (The page's ghost field says that there are some, and cannot hand
-- them out.)
abbrev pub ByMeaning : KeyPage → (ℕ → List ReadRun → Type 0) → Type 0
ByMeaning p P = (w : ℕ) (runs : List ReadRun) → Means p.page.now p.count w runs → P w runs

-- a page with a count stands for one thing, which has so many keys, or is malformed at one place
pub record Decided (page : List ℕ) (count : ℕ) : Type 0 where
  pub either : ((w : ℕ) × (runs : List ReadRun) × Means page count w runs) ⊎ ((p : ℕ) × Malformed page count p)
  pub never_both : (w : ℕ) (runs : List ReadRun) (p : ℕ) → Means page count w runs → Malformed page count p → ⊥
  pub one_meaning : (v w : ℕ) (rs runs : List ReadRun) → Means page count v rs → Means page count w runs → (v ≡ w) × (rs ≡ runs)
  pub one_place : (p q : ℕ) → Malformed page count p → Malformed page count q → p ≡ q
  pub key_count : (w : ℕ) (runs : List ReadRun) → Means page count w runs → length (keys_of w count runs) ≡ count
