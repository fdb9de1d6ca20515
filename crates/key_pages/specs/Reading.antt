-- How a page is read: run by run, up to the first wrong field. A help for the proofs, which tie it to what `Meaning` says.
use Rattle.std.specs.Prelude.{ℕ, zero, suc, ◌+◌, ◌-◌, ◌*◌, ◌/◌, ◌%◌, cond, List, [], ◌∷◌, length, take, drop, Some, None, Ok, Err, Option, Result, ◌==◌, nat_lt}
use Rattle.page_format.specs.Bits.{read_varint, bytes_for}
use Rattle.page_format.specs.Limits.{key_width}
use Rattle.page_format.specs.declared.field.Field.{Field}
use Rattle.page_format.specs.declared.field.BadField.{BadField}
use Rattle.key_pages.specs.Meaning.{ReadRun, repeats, packs, run_length, most_values}

-- what stands at the front of some bytes: a run in so many bytes, or none, with its first wrong field
pub data Step : Type 0 where
  a_run : (run : ReadRun) (size : ℕ) → Step
  no_run : (at : ℕ) → Step

-- a repeat of `count` values behind a header of n bytes
unfoldable pub repeat_step : ℕ → ℕ → ℕ → List ℕ → ℕ → ℕ → Step
repeat_step w place left bs count n =
    cond (nat_lt left count) (no_run 0)
    (cond (nat_lt (length bs) (n + bytes_for w)) (no_run n)
    (a_run (repeats place count (take (bytes_for w) (drop n bs))) (n + bytes_for w)))

-- packed groups behind a header of n bytes
unfoldable pub packed_step : ℕ → ℕ → List ℕ → ℕ → ℕ → Step
packed_step w place bs groups n =
    cond (nat_lt most_values (8 * groups)) (no_run 0)
    (cond (nat_lt (length bs) (n + groups * w)) (no_run n)
    (a_run (packs place groups (take (groups * w) (drop n bs))) (n + groups * w)))

-- a run whose header is h, in n bytes
unfoldable pub header_step : ℕ → ℕ → ℕ → List ℕ → ℕ → ℕ → Step
header_step w place left bs h n =
    cond (nat_lt h 2) (no_run 0)
    (cond (h % 2 == 0) (repeat_step w place left bs (h / 2) n) (packed_step w place bs (h / 2) n))

abbrev pub field_step : ℕ → ℕ → ℕ → List ℕ → Result Field BadField → Step
field_step w place left bs (Ok f) = header_step w place left bs f.value f.len
field_step w place left bs (Err e) = no_run 0

-- the run at the front of bs, which begin at a place of the page and owe `left` values
unfoldable pub read_run : ℕ → ℕ → ℕ → List ℕ → Step
read_run w place left bs = field_step w place left bs (read_varint 32 bs)

-- the runs up to the first wrong field, and its place if there is one
pub record Walk : Type 0 where
  pub runs : List ReadRun
  pub fault : Option ℕ

-- where no more values are owed
abbrev pub walk_end : ℕ → List ℕ → Walk
walk_end place [] = record { runs = []; fault = None }
walk_end place (b ∷ bs) = record { runs = []; fault = Some place }

abbrev pub walk_on : ReadRun → Walk → Walk
walk_on run t = record { runs = run ∷ t.runs; fault = t.fault }

abbrev pub walk_step : (ℕ → ℕ → List ℕ → Walk) → ℕ → ℕ → List ℕ → Step → Walk
walk_step F place left bs (a_run run size) = walk_on run (F (place + size) (left - run_length run) (drop size bs))
walk_step F place left bs (no_run k) = record { runs = []; fault = Some (place + k) }

unfoldable pub walk_by : ℕ → (ℕ → ℕ → List ℕ → Walk) → ℕ → ℕ → List ℕ → Walk
walk_by w F place left bs = cond (left == 0) (walk_end place bs) (walk_step F place left bs (read_run w place left bs))

-- the second argument only bounds the recursion: a run has at least one value
unfoldable pub walk_in : ℕ → ℕ → ℕ → ℕ → List ℕ → Walk
walk_in w zero place left bs = walk_end place bs
walk_in w (suc n) place left bs = walk_by w (walk_in w n) place left bs

unfoldable pub walk : ℕ → ℕ → ℕ → List ℕ → Walk
walk w place left bs = walk_in w left place left bs

-- a page with its count
unfoldable pub page_walk : List ℕ → ℕ → Walk
page_walk [] count = record { runs = []; fault = Some 0 }
page_walk (w ∷ bs) count = cond (nat_lt key_width w) (record { runs = []; fault = Some 0 }) (walk w 1 count bs)

-- the width of a page, if it has one that is not too large
abbrev pub width_of : List ℕ → Option ℕ
width_of [] = None
width_of (w ∷ bs) = cond (nat_lt key_width w) None (Some w)
