-- The limits of arrays, dictionaries, pages and readers. Each stands here once, and the constants of src/limits.rt are proved equal to it.
use Rattle.std.specs.Prelude.{ℕ}

-- bytes in a value
abbrev pub value_bytes : ℕ
value_bytes = 4096

-- entries of a dictionary
abbrev pub most_entries : ℕ
most_entries = 4096

-- values that a writer holds for one page, and that a reader takes in one page
abbrev pub page_values : ℕ
page_values = 16384

-- values of an array, and indices of a gather
abbrev pub array_values : ℕ
array_values = 1048576

-- bytes of an array's data
abbrev pub data_bytes : ℕ
data_bytes = 2147483647

-- bytes in a value of a fixed-width column
abbrev pub fixed_width : ℕ
fixed_width = 64

-- bits of a key
abbrev pub key_width : ℕ
key_width = 32

-- slots of the table that finds an entry
abbrev pub table_slots : ℕ
table_slots = 8192

-- groups of eight keys in a packed run that we write
abbrev pub run_groups : ℕ
run_groups = 63
