-- A store whose memory is its page: the entries in PLAIN one after another, with a table of where each one stands.
use Rattle.std.specs.Prelude.{◌≡◌, ℕ, ◌+◌, ◌≤◌, Bool, true, List, map, length, take, drop, ◌==◌, nat_le}
use Rattle.std.specs.List.{All}
use Rattle.page_format.specs.Limits.{value_bytes, most_entries}
use Rattle.page_format.specs.Plain.{Bytes, plain_page}
use Rattle.page_format.specs.declared.column.Column.{Column}
use Rattle.page_format.specs.declared.column.Column.TheVariants.{ByteStrings, Fixed}
use Rattle.interner.specs.Entries.{Store}
use Rattle.interner.specs.declared.plain.Entry.{Entry}

-- byte strings of at most 4,096 bytes, or values of the width
abbrev pub plain_suits : Column → Bytes → Bool
plain_suits ByteStrings v = nat_le (length v) value_bytes
plain_suits (Fixed w) v = length v == w.bytes

-- four bytes of length in front of a byte string, or the width alone
abbrev pub plain_need : Column → Bytes → ℕ
plain_need ByteStrings v = 4 + length v
plain_need (Fixed w) v = w.bytes

abbrev pub plain_store : Column → ℕ → Store
plain_store c memory = record { column = c; suits = plain_suits c; need = plain_need c; memory = memory; page = plain_page c }

-- the bytes that an element of the table names
abbrev pub standing : Bytes → Entry → Bytes
standing bytes e = take e.len (drop e.start bytes)

-- the entries: what the first `count` elements of the table name
abbrev pub stored : Bytes → List Entry → ℕ → List Bytes
stored bytes table count = map (standing bytes) (take count table)

abbrev pub no_entry : Entry
no_entry = record { start = 0; len = 0 }

-- each of them ends within the bytes in use
abbrev pub Inside : List Entry → ℕ → ℕ → Type 0
Inside table count used = All (λ e. e.start + e.len ≤ used) (take count table)

-- each of them suits
abbrev pub AllSuit : Column → List Bytes → Type 0
AllSuit c es = All (λ v. plain_suits c v ≡ true) es

-- what the fields of a store say of one another: the memory begins with the page of the entries that the table names
pub record Laid (c : Column) (bytes : Bytes) (table : List Entry) (count used : ℕ) : Type 0 where
  pub whole : length table ≡ most_entries
  pub few : count ≤ most_entries
  pub within : used ≤ length bytes
  pub inside : Inside table count used
  pub suited : AllSuit c (stored bytes table count)
  pub front : take used bytes ≡ plain_page c (stored bytes table count)
