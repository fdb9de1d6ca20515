-- What is still to come from a page, and how it comes.
use Rattle.std.specs.Prelude.{◌≡◌, ℕ, ◌+◌, ◌-◌, ◌<◌, List, [], ◌++◌, take, drop, Some, None, Ok, Err, Option, Result, true}
use Rattle.std.specs.List.{flat_map, AllByRecursion}
use Rattle.std.specs.Iterator.{YieldsFirstBy}
use Rattle.key_pages.specs.Meaning.{ReadRun, run_length, run_values, FirstOutside}
use Rattle.key_pages.specs.Reading.{Step, a_run, no_run, read_run, Walk, walk}
use Rattle.key_pages.specs.Views.{view, holds_whole}
use Rattle.key_pages.specs.declared.run.Run.{Run}
use Rattle.key_pages.specs.declared.runs.Runs.{Runs}
use Rattle.key_pages.specs.declared.keys.Keys.{Keys}
use Rattle.key_pages.specs.declared.runs.Found.{Found}

-- a step of the walk, as the code answers it
abbrev pub ReadAs : Step → Result Found ℕ → Type 0
ReadAs s (Ok f) = s ≡ a_run (view f.run) f.size
ReadAs s (Err k) = s ≡ no_run k

-- the bytes from the place that was reached
abbrev pub rest_of : Runs → List ℕ
rest_of s = drop s.place s.page.now

-- the run at that place
abbrev pub next_step : Runs → Step
next_step s = read_run s.width.bits s.place s.left (rest_of s)

pub record Behind (s : Runs) (run : ReadRun) (size : ℕ) (t : Runs) : Type 0 where
  pub read : next_step s ≡ a_run run size
  pub page_is : t.page.now ≡ s.page.now
  pub width_is : t.width ≡ s.width
  pub place_is : t.place ≡ s.place + size
  pub left_is : t.left ≡ s.left - run_length run

abbrev pub Advanced : Runs → Result Run ℕ → Runs → Type 0
Advanced s (Ok run) t = (size : ℕ) × Behind s (view run) size t
Advanced s (Err p) t = ((k : ℕ) × (next_step s ≡ no_run k) × (p ≡ s.place + k)) × (t ≡ s)

-- the walk from here
abbrev pub walk_from : Runs → Walk
walk_from s = walk s.width.bits s.place s.left (rest_of s)

abbrev pub runs_to_come : Runs → List ReadRun
runs_to_come s = (walk_from s).runs

-- the first of the runs to come, which is whole, or none; the width stays
abbrev pub NextRun : Runs → Option Run → Runs → Type 0
NextRun s r t = YieldsFirstBy view runs_to_come s r t × (holds_whole t.width.bits r ≡ true) × (t.width ≡ s.width)

-- the values of the run in use
abbrev pub held_values : ℕ → Option Run → List ℕ
held_values w None = []
held_values w (Some run) = run_values w (view run)

-- the values from here, those past the last key too
abbrev pub values_to_come : Keys → List ℕ
values_to_come s = drop s.at (held_values s.runs.width.bits s.run) ++ flat_map (run_values s.runs.width.bits) (runs_to_come s.runs)

abbrev pub keys_to_come : Keys → List ℕ
keys_to_come s = take s.left (values_to_come s)

-- the run in use has the next value, and nothing else has changed
pub record Using (s : Keys) (run : Run) (t : Keys) : Type 0 where
  pub held : t.run ≡ Some run
  pub more : t.at < run_length (view run)
  pub values : values_to_come t ≡ values_to_come s
  pub left_is : t.left ≡ s.left

abbrev pub InUse : Keys → Option Run → Keys → Type 0
InUse s None t = (values_to_come s ≡ []) × (values_to_come t ≡ [])
InUse s (Some run) t = Using s run t

-- the keys are all below the entries, or this is the first that is not
abbrev pub Outside : List ℕ → ℕ → Option ℕ → Type 0
Outside keys entries None = AllByRecursion (λ key. key < entries) keys
Outside keys entries (Some k) = FirstOutside keys entries k
