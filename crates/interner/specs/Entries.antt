-- What a store of entries is, by the list of its entries.
use Rattle.std.specs.Prelude.{◌≡◌, ℕ, ◌+◌, ◌<◌, ◌≤◌, Bool, true, cond, List, [], ◌∷◌, ◌++◌, length, take, sum_by, ◌≢◌, nat_le, nat_lt, slice_index_or}
use Rattle.std.specs.List.{All, AllPairs}
use Rattle.page_format.specs.Faults.{Told, answered, rejected}
use Rattle.page_format.specs.Limits.{most_entries}
use Rattle.page_format.specs.Plain.{Bytes, ReadsPlain}
use Rattle.page_format.specs.declared.column.Column.{Column}

-- what a store takes and how it lays it out: the column it is of, the values that suit it, the memory that an entry needs,
-- the memory that there is, and the page of a list of entries
pub record Store : Type 0 where
  pub column : Column
  pub suits : Bytes → Bool
  pub need : Bytes → ℕ
  pub memory : ℕ
  pub page : List Bytes → Bytes

abbrev pub Suited : Store → List Bytes → Type 0
Suited st es = All (λ v. st.suits v ≡ true) es

-- bytes in use
abbrev pub in_use : Store → List Bytes → ℕ
in_use st es = sum_by st.need es

-- what every store owes of its page: it is as long as the bytes in use, and read as PLAIN it is the entries and nothing else
pub record Lawful (st : Store) : Type 0 where
  pub long : (es : List Bytes) → Suited st es → length (st.page es) ≡ in_use st es
  pub reads : (es : List Bytes) → Suited st es → ReadsPlain st.column (st.page es) (length es) es
  pub only : (es vs : List Bytes) → Suited st es → ReadsPlain st.column (st.page es) (length es) vs → vs ≡ es

-- what holds of every store at any time: its memory begins with its page
pub record Kept (st : Store) (es : List Bytes) (bytes : Bytes) : Type 0 where
  pub few : length es ≤ most_entries
  pub suited : Suited st es
  pub within : in_use st es ≤ st.memory
  pub whole : length bytes ≡ st.memory
  pub front : take (in_use st es) bytes ≡ st.page es

-- v is the entry k of es
abbrev pub Holds : List Bytes → ℕ → Bytes → Type 0
Holds es k v = (k < length es) × (slice_index_or es k [] ≡ v)

abbrev pub Distinct : List Bytes → Type 0
Distinct es = AllPairs ◌≢◌ es

-- the answer to a push of v onto the entries es
abbrev pub pushed : Store → List Bytes → Bytes → ℕ → Told ℕ
pushed st es v place =
    cond (st.suits v)
    (cond (nat_lt (length es) most_entries)
    (cond (nat_le (in_use st es + st.need v) st.memory) (answered (length es)) (rejected 7 2 place))
    (rejected 6 2 place))
    (rejected 4 2 place)

-- the entries after a push of v that was answered so
abbrev pub after : List Bytes → Bytes → Told ℕ → List Bytes
after es v (answered k) = es ++ v ∷ []
after es v (rejected n l p) = es
