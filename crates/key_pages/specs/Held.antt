-- What the run writer of the code holds, against the machine's.
use Rattle.std.specs.Prelude.{◌≡◌, ℕ, ◌+◌, ◌^◌, ◌<◌, ◌≤◌, List, [], ◌∷◌, ◌++◌, length, take, drop, Option, MatchOption}
use Rattle.std.specs.List.{flat_map, AllByRecursion}
use Rattle.page_format.specs.Limits.{run_groups}
use Rattle.page_format.specs.declared.bit_writer.BitWriter.{BitWriter}
use Rattle.key_pages.specs.Runs.{Run, packed, run_bytes}
use Rattle.key_pages.specs.Machine.{Writer, closed, full, joins, finish}
use Rattle.key_pages.specs.declared.encoder.OpenRun.{OpenRun}
use Rattle.key_pages.specs.declared.encoder.RleEncoder.{RleEncoder}
use Rattle.key_pages.specs.declared.encoder.State.{State}
use Rattle.key_pages.specs.declared.encoder.State.TheVariants.{Gathering, Repeating}

-- the bytes of runs
abbrev pub bytes : ℕ → List Run → List ℕ
bytes w rs = w ∷ flat_map (run_bytes w) rs

-- the bytes before the writer's place
abbrev pub front_of : BitWriter → List ℕ
front_of out = take out.at out.bytes.now

-- a step writes from the writer's place on, and leaves what is behind the new place
pub record Extends (out out' : BitWriter) : Type 0 where
  pub same_buffer : out'.bytes.ghost_name ≡ out.bytes.ghost_name
  pub long : length out'.bytes.now ≡ length out.bytes.now
  pub further : out.at ≤ out'.at
  pub back : drop out'.at out'.bytes.now ≡ drop out'.at out.bytes.now

-- the packed run of the groups gs stands behind the bytes front
pub record Packs (w : ℕ) (front : List ℕ) (gs : List (List ℕ)) (run : OpenRun) (out : BitWriter) : Type 0 where
  pub counted : run.groups ≡ length gs
  pub heads : run.header ≡ length front
  pub bytes_are : front_of out ≡ front ++ run_bytes w (packed gs)

-- the page so far, with the packed run of the groups gs still open; there is none where it has no group
pub record Page (w : ℕ) (rs : List Run) (gs : List (List ℕ)) (run : Option OpenRun) (out : BitWriter) : Type 0 where
  pub front : front_of out ≡ bytes w (closed rs gs)
  pub open_is : MatchOption run (gs ≡ []) (λ r. (0 < length gs) × (r.groups ≡ length gs) × (r.header ≡ length (bytes w rs)))

-- the keys that wait in a group
pub record Waits (part : List ℕ) (group : List ℕ) (waiting : ℕ) : Type 0 where
  pub eight : length group ≡ 8
  pub waits : take waiting group ≡ part
  pub waiting_is : waiting ≡ length part

-- e and the page out stand for the machine m, but for the count
pub record Stands (m : Writer) (e : RleEncoder) (out : BitWriter) : Type 0 where
  pub page : Page e.width.bits m.runs m.groups e.«open» out
  pub open page use *
  pub keys : Waits m.part e.group e.waiting
  pub open keys use *
  pub last_is : e.last ≡ m.last
  pub inside : AllByRecursion (λ k. k < 2 ^ e.width.bits) (m.last ∷ m.part)

-- the state has the count n, and tells whether it is eight or more
abbrev pub Counts : State → ℕ → Type 0
Counts (Gathering r) n = (r ≡ n) × (n < 8)
Counts (Repeating r) n = (r ≡ n) × (8 ≤ n)

-- e and the page out stand for the machine m
pub record Holds (m : Writer) (e : RleEncoder) (out : BitWriter) : Type 0 where
  pub stands : Stands m e out
  pub counts : Counts e.state m.count

-- the full group joins the packed run
abbrev pub packing : Writer → Writer
packing m = record { runs = m.runs; groups = m.groups ++ m.part ∷ []; part = []; last = m.last; count = 0 }

-- a full group joins
abbrev pub filling : Writer → Writer
filling m = full m.runs m.groups m.part m.last m.count

-- the last key joins the group
abbrev pub joining : Writer → Writer
joining m = joins m.runs m.groups m.part m.last m.count

-- what of m each step asks
abbrev pub Full : Writer → Type 0
Full m = (length m.part ≡ 8) × (length m.groups < run_groups)

pub record Fills (repeats : ℕ) (m : Writer) : Type 0 where
  pub full_is : Full m
  pub count_is : m.count ≡ repeats

pub record Joins (repeats : ℕ) (m : Writer) : Type 0 where
  pub part_short : length m.part < 8
  pub groups_few : length m.groups < run_groups
  pub count_is : m.count ≡ repeats
  pub count_low : repeats ≤ length m.part + 1

pub record Small (m : Writer) : Type 0 where
  pub part_short : length m.part < 8
  pub groups_few : length m.groups < run_groups
  pub count_small : m.count < 2 ^ 62
  pub repeating : 8 ≤ m.count → m.groups ≡ []
  pub grouping : m.count < 8 → m.count ≤ length m.part

pub record Gathered (repeats : ℕ) (m : Writer) : Type 0 where
  pub part_short : length m.part < 8
  pub groups_few : length m.groups < run_groups
  pub count_is : m.count ≡ repeats
  pub count_low : repeats < 8

-- so long a page holds the runs of m
abbrev pub Room : ℕ → Writer → ℕ → Type 0
Room w m n = length (bytes w (closed m.runs m.groups)) ≤ n

-- the page is long enough for a step F of what e and out stand for
pub record Ready (H : Writer → RleEncoder → BitWriter → Type 0) (F : Writer → Writer) (P : Writer → Type 0) (e : RleEncoder) (out : BitWriter) : Type 0 where
  pub model : Writer
  pub held : H model e out
  pub apt : P model
  pub room : Room e.width.bits (F model) (length out.bytes.now)

-- each machine that e and out stand for takes the step F
abbrev pub Refines : (Writer → RleEncoder → BitWriter → Type 0) → (Writer → Writer) → (Writer → Type 0) → (Writer → RleEncoder → BitWriter → Type 0)
    → RleEncoder → BitWriter → RleEncoder → BitWriter → Type 0
Refines H F P K e out e' out' = (m : Writer) → H m e out → P m → K (F m) e' out'

-- a step of e writes at the end of the page
pub record Grows (e : RleEncoder) (out : BitWriter) (e' : RleEncoder) (out' : BitWriter) : Type 0 where
  pub width_is : e'.width ≡ e.width
  pub extends : Extends out out'

-- the page is long enough for the end of what e and out stand for
pub record Ending (H : Writer → RleEncoder → BitWriter → Type 0) (P : Writer → Type 0) (e : RleEncoder) (out : BitWriter) : Type 0 where
  pub model : Writer
  pub held : H model e out
  pub apt : P model
  pub room : length (bytes e.width.bits (finish model)) ≤ length out.bytes.now

-- the page is all there, before the writer's place
pub record Ended (H : Writer → RleEncoder → BitWriter → Type 0) (P : Writer → Type 0) (e : RleEncoder) (out out' : BitWriter) : Type 0 where
  pub front : (m : Writer) → H m e out → P m → front_of out' ≡ bytes e.width.bits (finish m)
  pub extends : Extends out out'
