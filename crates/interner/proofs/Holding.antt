-- What a store's memory is, and what the fields of a plain store say of it.
use Rattle.std.proofs.Common.{◌≡◌, List, ◌++◌, length, drop, sym}
use Rattle.std.proofs.lemmas.List.{take-append-drop}
use Rattle.page_format.specs.Plain.{Bytes, plain_page}
use Rattle.interner.specs.Entries.{Store, in_use, Kept}
use Rattle.interner.specs.Layouts.{plain_store, stored}
use Rattle.interner.specs.Laying.{length-stored, used_is, kept}
use Rattle.interner.specs.declared.plain.PlainStorage.{PlainStorage}

-- the memory of a store is its page and what is behind it
pub page_first : {st : Store} {es : List Bytes} {bytes : Bytes} → Kept st es bytes → bytes ≡ st.page es ++ drop (in_use st es) bytes
page_first {st} {es} {bytes} k = rw (← k.front) (sym (take-append-drop (in_use st es) bytes))

abbrev pub store_of : PlainStorage → Store
store_of s = plain_store s.column s.bytes.len

abbrev pub entries_of : PlainStorage → List Bytes
entries_of s = stored s.bytes.items s.table s.count

pub kept_of : (s : PlainStorage) → Kept (store_of s) (entries_of s) s.bytes.items
kept_of s = kept s.laid (sym s.bytes.ok.0)

pub count_of : (s : PlainStorage) → length (entries_of s) ≡ s.count
count_of s = length-stored s.laid

pub used_of : (s : PlainStorage) → s.used ≡ in_use (store_of s) (entries_of s)
used_of s = used_is s.laid

pub memory_of : (s : PlainStorage) → s.bytes.items ≡ plain_page s.column (entries_of s) ++ drop (in_use (store_of s) (entries_of s)) s.bytes.items
memory_of s = page_first (kept_of s)
