-- What interning does, by the list of entries alone: find the value in the list, else push it. There is no hash here.
use Rattle.std.specs.Prelude.{◌≡◌, ℕ, not, List, [], ◌∷◌, ◌++◌, map, Some, None, filter, Option}
use Rattle.std.specs.List.{All, position}
use Rattle.std.specs.Str.{bytes_eq}
use Rattle.page_format.specs.Faults.{Told, answered, rejected}
use Rattle.page_format.specs.Plain.{Bytes}
use Rattle.interner.specs.Entries.{Store, Holds, Distinct, pushed, after}

-- the first place of v in es
abbrev pub find : List Bytes → Bytes → Option ℕ
find es v = position (λ e. bytes_eq e v) es

abbrev pub key_or : Option ℕ → Told ℕ → Told ℕ
key_or (Some k) else = answered k
key_or None else = else

abbrev pub same_or : Option ℕ → List Bytes → List Bytes → List Bytes
same_or (Some k) es else = es
same_or None es else = else

-- the answer to v at these entries
abbrev pub interned : Store → List Bytes → Bytes → ℕ → Told ℕ
interned st es v place = key_or (find es v) (pushed st es v place)

-- and the entries after
abbrev pub entries_after : Store → List Bytes → Bytes → ℕ → List Bytes
entries_after st es v place = same_or (find es v) es (after es v (pushed st es v place))

-- what holds of a call in any state, also where entries are there twice or cannot be found: its answer is the key of an equal
-- entry, and then nothing changes, or that of a push
pub data FoundOrPushed (st : Store) (es : List Bytes) (v : Bytes) (place : ℕ) (answer : Told ℕ) (es' : List Bytes) : Type 0 where
  found : (k : ℕ) → Holds es k v → answer ≡ answered k → es' ≡ es → FoundOrPushed st es v place answer es'
  added : answer ≡ pushed st es v place → es' ≡ after es v answer → FoundOrPushed st es v place answer es'

-- a call: the value, the place for its fault, and the answer
pub record Call : Type 0 where
  pub value : Bytes
  pub place : ℕ
  pub answer : Told ℕ

-- one call turns the entries es into es'
pub record Step (st : Store) (es : List Bytes) (c : Call) (es' : List Bytes) : Type 0 where
  pub answers : c.answer ≡ interned st es c.value c.place
  pub entries : es' ≡ entries_after st es c.value c.place

-- calls one after another
pub data Runs (st : Store) : List Bytes → List Call → List Bytes → Type 0 where
  stop : {es : List Bytes} → Runs st es [] es
  then : {es es' es'' : List Bytes} {c : Call} {cs : List Call} → Step st es c es' → Runs st es' cs es'' → Runs st es (c ∷ cs) es''

-- the values whose calls were not rejected, in order
abbrev pub if_answered : Told ℕ → Bytes → List Bytes
if_answered (answered k) v = v ∷ []
if_answered (rejected n l p) v = []

abbrev pub accepted : List Call → List Bytes
accepted [] = []
accepted (c ∷ cs) = if_answered c.answer c.value ++ accepted cs

-- each value where it first stands
abbrev pub first_appearances : List Bytes → List Bytes
first_appearances [] = []
first_appearances (v ∷ vs) = v ∷ filter (λ w. not (bytes_eq v w)) (first_appearances vs)

-- what a caller asked
pub record Ask : Type 0 where
  pub value : Bytes
  pub place : ℕ

abbrev pub asked : Call → Ask
asked c = record { value = c.value; place = c.place }

-- an answered call got the key of its value
abbrev pub NamesItsValue : List Bytes → Call → Type 0
NamesItsValue es c = (k : ℕ) → c.answer ≡ answered k → Holds es k c.value

-- of every list of calls on a store without entries, rejections among them
pub record EveryRun (st : Store) : Type 0 where
  -- the entries are the first appearances of the values accepted
  pub firsts : (cs : List Call) (es : List Bytes) → Runs st [] cs es → es ≡ first_appearances (accepted cs)
  -- none is there twice
  pub distinct : (cs : List Call) (es : List Bytes) → Runs st [] cs es → Distinct es
  -- every key that was ever answered names, in the end too, the value that it was answered for
  pub keys : (cs : List Call) (es : List Bytes) → Runs st [] cs es → All (NamesItsValue es) cs
  -- the same questions get the same answers and leave the same entries, whoever is asked
  pub alike : (cs ds : List Call) (es fs : List Bytes) → Runs st [] cs es → Runs st [] ds fs → map asked cs ≡ map asked ds → (cs ≡ ds) × (es ≡ fs)
