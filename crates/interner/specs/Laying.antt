-- Why a plain store keeps the laws of a store. These are lemmas: the laws are answered at the impl, and a term there cites specs/ alone.
use Rattle.std.specs.Prelude.{◌≡◌, ℕ, true, List, [], ◌∷◌, length, take, sum_by, refl}
use Rattle.std.proofs.Common.{sym, ap, ◌∙◌, arith}
use Rattle.std.proofs.lemmas.List.{length-append, length-map, length-take-le}
use Rattle.std.proofs.lemmas.List.Elements.{All-head, All-tail, All-weaker, recursion_from_All}
use Rattle.std.proofs.lemmas.List.Sums.{sum_by-cons}
use Rattle.std.proofs.lemmas.Bool.{leb-true, eqb-true}
use Rattle.page_format.specs.Bits.{le_bytes}
use Rattle.page_format.specs.Plain.{Bytes, PlainValue, ReadsPlain, plain_form, plain_page}
use Rattle.page_format.specs.declared.column.Column.{Column}
use Rattle.page_format.specs.declared.column.Column.TheVariants.{ByteStrings, Fixed}
use Rattle.page_format.proofs.Endian.{length-le_bytes}
use Rattle.page_format.proofs.Plains.{one_plain_reading}
use Rattle.interner.specs.Entries.{Lawful, Kept}
use Rattle.interner.specs.Layouts.{plain_suits, plain_need, plain_store, standing, stored, AllSuit, Laid}
use Rattle.interner.specs.declared.plain.Entry.{Entry}

-- a value that suits has a form in PLAIN, of the length that it needs
suits_form : (c : Column) (v : Bytes) → plain_suits c v ≡ true → PlainValue c v
suits_form ByteStrings v s = omega (arith, leb-true _ _ s)
suits_form (Fixed w) v s = eqb-true _ _ s

pub form_need : (c : Column) (v : Bytes) → plain_suits c v ≡ true → length (plain_form c v) ≡ plain_need c v
form_need ByteStrings v s = omega (arith, length-append (le_bytes 4 (length v)) v, length-le_bytes 4 (length v))
form_need (Fixed w) v s = eqb-true _ _ s

long : (c : Column) (es : List Bytes) → AllSuit c es → length (plain_page c es) ≡ sum_by (plain_need c) es
long c [] s = refl
long c (e ∷ es) s =
    let suits = λ (v : Bytes). plain_suits c v ≡ true in
    omega (arith, length-append (plain_form c e) (plain_page c es), form_need c e (All-head suits e es s), long c es (All-tail suits e es s), sum_by-cons (plain_need c) e es)

reads : (c : Column) (es : List Bytes) → AllSuit c es → ReadsPlain c (plain_page c es) (length es) es
reads c es s = record { counted = refl; values = recursion_from_All (PlainValue c) es (All-weaker _ _ (suits_form c) es s); whole = refl }

pub lawful : (c : Column) (m : ℕ) → Lawful (plain_store c m)
lawful c m = record { long = long c; reads = reads c; only = λ es vs s r. one_plain_reading c (plain_page c es) (length es) vs es r (reads c es s) }

module _ {c : Column} {bytes : Bytes} {table : List Entry} {count used : ℕ} (laid : Laid c bytes table count used) where
  pub length-stored : length (stored bytes table count) ≡ count
  length-stored = length-map (take count table) (standing bytes) ∙ length-take-le count table (omega arith)

  -- bytes in use are those of the page
  pub used_is : used ≡ sum_by (plain_need c) (stored bytes table count)
  used_is = sym (length-take-le used bytes laid.within) ∙ ap length laid.front ∙ long c (stored bytes table count) laid.suited

  pub kept : {m : ℕ} → length bytes ≡ m → Kept (plain_store c m) (stored bytes table count) bytes
  kept whole = record {
    few = omega (arith, length-stored);
    suited = laid.suited;
    within = omega (arith, used_is);
    whole = whole;
    front = rw (← used_is) laid.front;
  }
