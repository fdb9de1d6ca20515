-- What the calls of the writer promise.
use Rattle.std.specs.Prelude.{◌≡◌, ℕ, ◌+◌, ◌^◌, ◌<◌, ◌≤◌, ◌⊎◌, List, [], ◌∷◌, ◌++◌, length, replicate, Ok, Err, Result}
use Rattle.std.specs.List.{AllByRecursion}
use Rattle.page_format.specs.declared.fault.Fault.{Fault}
use Rattle.page_format.specs.Faults.{Rejected}
use Rattle.page_format.specs.Limits.{key_width, page_values}
use Rattle.page_format.specs.Writes.{Wrote}
use Rattle.key_pages.specs.Meaning.{FirstOutside}
use Rattle.key_pages.specs.Runs.{Run, cut, page, most_bytes}
use Rattle.key_pages.specs.Cuts.{Cuts}
use Rattle.key_pages.specs.declared.width.KeyWidth.{KeyWidth}

-- the rules give each key list its cut, and nothing else
abbrev pub RulesCut : Type 0
RulesCut = ((ks : List ℕ) → Cuts ks (cut ks)) × ((ks : List ℕ) (rs : List Run) → Cuts ks rs → rs ≡ cut ks)

abbrev pub PageFits : Type 0
PageFits = (w : ℕ) (ks : List ℕ) → length (page w ks) ≤ 1 + most_bytes w (length ks)

-- a width and a count are within the limits
abbrev pub WithinLimits : ℕ → ℕ → Type 0
WithinLimits w n = (w ≤ key_width) × (n ≤ page_values)

abbrev pub OverLimit : ℕ → ℕ → Type 0
OverLimit w n = (key_width < w) ⊎ (page_values < n)

-- the width w of n keys, or number 2 above a limit
abbrev pub Limited : ℕ → ℕ → Result KeyWidth Fault → Type 0
Limited w n (Ok width) = WithinLimits w n × (width.bits ≡ w)
Limited w n (Err f) = OverLimit w n × Rejected {X = KeyWidth} 2 4 0 (Err f)

-- the most bytes of n keys at width w, or number 2 above a limit
abbrev pub MostOf : ℕ → ℕ → Result ℕ Fault → Type 0
MostOf w n (Ok r) = WithinLimits w n × (r ≡ most_bytes w n)
MostOf w n (Err f) = OverLimit w n × Rejected {X = ℕ} 2 4 0 (Err f)

-- the keys have a page in a buffer of so many bytes
pub record Writable (w : ℕ) (ks : List ℕ) (room : ℕ) : Type 0 where
  pub limited : WithinLimits w (length ks)
  pub room_is : 1 + most_bytes w (length ks) ≤ room
  pub inside : AllByRecursion (λ k. k < 2 ^ w) ks

-- why they have none, by the first that applies: number 2 above a limit, 9 for a short buffer, 12 for the first key that the width does not hold
pub data Unwritable (w : ℕ) (ks : List ℕ) (room : ℕ) (r : Result ℕ Fault) : Type 0 where
  above_limit : OverLimit w (length ks) → Rejected 2 4 0 r → Unwritable w ks room r
  short_buffer : WithinLimits w (length ks) → room < 1 + most_bytes w (length ks) → Rejected 9 4 1 r → Unwritable w ks room r
  key_outside : WithinLimits w (length ks) → 1 + most_bytes w (length ks) ≤ room → (i : ℕ) → FirstOutside ks (2 ^ w) i → Rejected 12 4 i r → Unwritable w ks room r

-- the page stands at the front of the buffer, and its length is the answer; or nothing is written
abbrev pub PageWritten : ℕ → List ℕ → List ℕ → Result ℕ Fault → List ℕ → Type 0
PageWritten w ks out (Ok end) out' = Writable w ks (length out) × Wrote (page w ks) 0 out end out'
PageWritten w ks out (Err f) out' = Unwritable w ks (length out) (Err f) × (out' ≡ out)

-- the answer is within the bound
abbrev pub Bounded : ℕ → ℕ → Result ℕ Fault → Type 0
Bounded w n (Ok end) = end ≤ 1 + most_bytes w n
Bounded w n (Err f) = Unit {0}

-- a page, worked out by hand
pub record Worked : Type 0 where
  pub width : ℕ
  pub keys : List ℕ
  pub bytes : List ℕ

abbrev upto_seven : List ℕ
upto_seven = 0 ∷ 1 ∷ 2 ∷ 3 ∷ 4 ∷ 5 ∷ 6 ∷ 7 ∷ []

abbrev pub worked : List Worked
worked =
    record { width = 0; keys = []; bytes = 0x00 ∷ [] }
    ∷ record { width = 0; keys = replicate 8 0; bytes = 0x00 ∷ 0x10 ∷ [] }
    ∷ record { width = 0; keys = replicate 9 0; bytes = 0x00 ∷ 0x12 ∷ [] }
    ∷ record { width = 0; keys = replicate 64 0; bytes = 0x00 ∷ 0x80 ∷ 0x01 ∷ [] }
    ∷ record { width = 3; keys = upto_seven; bytes = 0x03 ∷ 0x03 ∷ 0x88 ∷ 0xC6 ∷ 0xFA ∷ [] }
    ∷ record { width = 3; keys = upto_seven ++ replicate 8 7; bytes = 0x03 ∷ 0x03 ∷ 0x88 ∷ 0xC6 ∷ 0xFA ∷ 0x10 ∷ 0x07 ∷ [] }
    ∷ []

abbrev pub WorkedPages : Type 0
WorkedPages = AllByRecursion (λ x. page x.width x.keys ≡ x.bytes) worked
