-- A PLAIN page has one reading at most, and is as long as the forms of its values.
use Rattle.std.proofs.Common.{◌≡◌, ◌+◌, List, [], ◌∷◌, ◌++◌, length, take, drop, sum_by, sym, refl, ap, ◌∙◌, arith}
use Rattle.std.specs.List.{AllByRecursion}
use Rattle.std.proofs.lemmas.List.{append_assoc, length-append, take_at, drop_at}
use Rattle.std.proofs.lemmas.List.Sums.{sum_by-cons}
use Rattle.page_format.specs.Bits.{le_bytes, le_number}
use Rattle.page_format.specs.Plain.{Bytes, PlainValue, plain_form, plain_page, OnePlainReading}
use Rattle.page_format.specs.declared.column.Column.{Column}
use Rattle.page_format.specs.declared.column.Column.TheVariants.{ByteStrings, Fixed}
use Rattle.page_format.proofs.Endian.{length-le_bytes, le_reads}

-- two joins whose fronts are as long agree in both parts
pub same_parts : (a b xs ys : Bytes) → length a ≡ length b → a ++ xs ≡ b ++ ys → (a ≡ b) × (xs ≡ ys)
same_parts a b xs ys l e = (
  sym (take_at a xs (length a) refl) ∙ ap (take (length a)) e ∙ take_at b ys (length a) (sym l),
  sym (drop_at a xs (length a) refl) ∙ ap (drop (length a)) e ∙ drop_at b ys (length a) (sym l),
)

-- the first value of a page, and what is behind it
same_first : (c : Column) (v w xs ys : Bytes) → PlainValue c v → PlainValue c w → plain_form c v ++ xs ≡ plain_form c w ++ ys → (v ≡ w) × (xs ≡ ys)
same_first ByteStrings v w xs ys fv fw e =
    let hv = le_bytes 4 (length v) in
    let hw = le_bytes 4 (length w) in
    let e' : hv ++ (v ++ xs) ≡ hw ++ (w ++ ys) = sym (append_assoc hv v xs) ∙ e ∙ append_assoc hw w ys in
    let heads = same_parts hv hw (v ++ xs) (w ++ ys) (length-le_bytes 4 (length v) ∙ sym (length-le_bytes 4 (length w))) e' in
    let long : length v ≡ length w = sym (le_reads 4 (length v) fv) ∙ ap le_number heads.0 ∙ le_reads 4 (length w) fw in
    same_parts v w xs ys long heads.1
same_first (Fixed w) v u xs ys fv fu e = same_parts v u xs ys (fv ∙ sym fu) e

same_values : (c : Column) (vs ws : List Bytes) → length vs ≡ length ws → AllByRecursion (PlainValue c) vs → AllByRecursion (PlainValue c) ws → plain_page c vs ≡ plain_page c ws → vs ≡ ws
same_values c [] [] l av aw e = refl
same_values c [] (w ∷ ws) l av aw e = absurd (omega arith)
same_values c (v ∷ vs) [] l av aw e = absurd (omega arith)
same_values c (v ∷ vs) (w ∷ ws) l (fv, av) (fw, aw) e =
    let first = same_first c v w (plain_page c vs) (plain_page c ws) fv fw e in
    let rest = same_values c vs ws (omega arith) av aw first.1 in
    let one = first.0 in
    cc

pub one_plain_reading : OnePlainReading
one_plain_reading c page count vs ws r s = same_values c vs ws (r.counted ∙ sym s.counted) r.values s.values (sym r.whole ∙ s.whole)

pub length-page : (c : Column) (vs : List Bytes) → length (plain_page c vs) ≡ sum_by (λ v. length (plain_form c v)) vs
length-page c [] = refl
length-page c (v ∷ vs) =
    length-append (plain_form c v) (plain_page c vs) ∙ ap (λ n. length (plain_form c v) + n) (length-page c vs) ∙ sym (sum_by-cons (λ u. length (plain_form c u)) v vs)
