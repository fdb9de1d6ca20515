-- What it is to open an array, for every kind.
use Rattle.std.specs.Prelude.{◌≡◌, ℕ, ◌<◌, true, is_ok, Some, None, Option, Result, MatchResult}
use Rattle.page_format.specs.Faults.{Numbered, Rejected}
use Rattle.page_format.specs.declared.fault.Fault.{Fault}

-- the rules of an array's memory
pub record Rules : Type 1 where
  -- the memory is above a limit
  pub above : Type 0
  -- the memory as a whole is malformed
  pub malformed : Type 0
  -- offset or key j keeps its rule
  pub rule : ℕ → Type 0
  -- the number of offsets or keys
  pub count : ℕ

-- each of the first n places keeps its rule
abbrev pub Keep : Rules → ℕ → Type 0
Keep R n = (j : ℕ) → j < n → R.rule j

abbrev pub Within : Rules → Type 0
Within R = R.above → ⊥

abbrev pub Whole : Rules → Type 0
Whole R = R.malformed → ⊥

abbrev pub AllKeep : Rules → Type 0
AllKeep R = Keep R R.count

-- the memory keeps all rules
pub record Fit (R : Rules) : Type 0 where
  pub limits : Within R
  pub whole : Whole R
  pub each : AllKeep R

-- j is the first place that breaks its rule
pub record FirstBroken (R : Rules) (j : ℕ) : Type 0 where
  pub inside : j < R.count
  pub breaks : R.rule j → ⊥
  pub before : Keep R j

-- the answer to a search for the first place that breaks its rule
abbrev pub FindsBroken : Rules → Option ℕ → Type 0
FindsBroken R None = AllKeep R
FindsBroken R (Some j) = FirstBroken R j

-- the memory breaks a rule, and the fault says which
pub data Refused (R : Rules) (f : Fault) : Type 0 where
  above_limit : R.above → Numbered 2 1 0 f → Refused R f
  malformed : Within R → R.malformed → Numbered 1 1 0 f → Refused R f
  broken : (j : ℕ) → Within R → Whole R → FirstBroken R j → Numbered 1 1 j f → Refused R f

-- the answer to a call that opens an array, or checks memory: by what the memory is, and what the memory is by the answer
pub record Answers (R : Rules) {X : Type 0} (r : Result X Fault) : Type 0 where
  pub at_above : R.above → Rejected 2 1 0 r
  pub at_malformed : Within R → R.malformed → Rejected 1 1 0 r
  pub at_broken : (j : ℕ) → Within R → Whole R → FirstBroken R j → Rejected 1 1 j r
  pub at_fit : Fit R → is_ok r ≡ true
  pub only : MatchResult r (λ _. Fit R) (λ f. Refused R f)
