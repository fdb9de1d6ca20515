-- How what the readers and the writer promise makes a report.
use Rattle.std.proofs.Common.{◌≡◌, ℕ, ◌-◌, ◌^◌, ◌<◌, ◌≤◌, Bool, List, [], ◌∷◌, length, take, Ok, Decides, Result, sym, ap, ◌∙◌, subst, ap₂, arith, length-take}
use mathlib.Core.Path.{subst₃}
use Rattle.std.specs.List.{flat_map, ContainsAt as Has, AllByRecursion}
use Rattle.std.proofs.lemmas.List.{length-take-le, get_or-take}
use Rattle.page_format.specs.Bits.{BitsOf}
use Rattle.page_format.specs.Limits.{page_values, most_entries}
use Rattle.page_format.specs.declared.fault.Fault.{Fault}
use Rattle.key_pages.specs.Claims.{WithinLimits}
use Rattle.key_pages.specs.Listing.{ListsOnce, Listed}
use Rattle.key_pages.specs.Meaning.{ReadRun, Means, keys_of, run_values}
use Rattle.key_pages.specs.Opening.{Accepted, Opened}
use Rattle.key_pages.specs.Runs.{page}
use Rattle.key_pages.specs.declared.reader.KeyPage.{KeyPage}
use Rattle.page_report.specs.Lines.{run_line, contents_text}
use Rattle.page_report.specs.Reports.{Once, Makes, Told}

-- the front of the list has each key once
pub once_from : (keys was after : List ℕ) (n : ℕ) → ListsOnce keys was n after → Once keys (take n after)
once_from keys was after n l =
    let e : length (take n after) ≡ n = length-take-le n after l.within in
    record {
      distinct = λ i j lt in' same. l.distinct i j lt (omega arith)
          (let p : i < n = omega arith in let q : j < n = omega arith in sym (get_or-take n after i 0 p) ∙ same ∙ get_or-take n after j 0 q);
      only = λ i in'. let p : i < n = omega arith in subst (λ t. Has keys t) (sym (get_or-take n after i 0 p)) (l.used i p);
      each = l.each;
    }

pub listed_once : (keys was : List ℕ) (r : Result ℕ Fault) (n : ℕ) (after : List ℕ) → Listed keys was r after → r ≡ Ok n → Once keys (take n after)
listed_once keys was r n after l is = once_from keys was after n (subst (λ t. Listed keys was t after) is l)

-- keys below the entries fit the width that our writer has for them, which is within the limits
all_under : (keys : List ℕ) (entries top : ℕ) → entries ≤ top → AllByRecursion (λ k. k < entries) keys → AllByRecursion (λ k. k < top) keys
all_under [] entries top h a = tt
all_under (k ∷ keys) entries top h a = (omega (arith, a.0), all_under keys entries top h a.1)

pub own_limits : (w entries : ℕ) (keys : List ℕ) → BitsOf (entries - 1) w → entries ≤ most_entries → length keys ≤ page_values → AllByRecursion (λ k. k < entries) keys
    → WithinLimits w (length keys) × AllByRecursion (λ k. k < 2 ^ w) keys
own_limits w entries keys b few many inside =
    ((omega (arith, b.least 12 (omega arith)), many), all_under keys entries (2 ^ w) (omega (arith, b.fits)) inside)

-- whether our writer makes the same bytes, where the keys are within its limits
decides_same : (w : ℕ) (keys bytes : List ℕ) (b : Bool) → WithinLimits w (length keys) → AllByRecursion (λ k. k < 2 ^ w) keys → Decides b (Makes w keys bytes) → Decides b (page w keys ≡ bytes)
decides_same w keys bytes b limited fits d = ((λ t. (d.0 t).is), (λ e. d.1 (record { limited = limited; fits = fits; is = e })))

length-keys : (w count : ℕ) (runs : List ReadRun) → length (keys_of w count runs) ≤ count
length-keys w count runs = omega (arith, length-take count (flat_map (run_values w) runs))

pub tells_page : (bytes : List ℕ) (count entries : ℕ) (p : KeyPage) (keys used : List ℕ) (rs : List ReadRun) (own : ℕ) (same : Bool) (text : List ℕ) → Opened bytes count entries p
    → ((w : ℕ) (runs : List ReadRun) → Means p.page.now p.count w runs → keys ≡ keys_of w p.count runs)
    → ((w : ℕ) (runs : List ReadRun) → Accepted p.page.now p.count p.entries w runs → Once (keys_of w p.count runs) used)
    → ((w : ℕ) (runs : List ReadRun) → Means p.page.now p.count w runs → rs ≡ runs)
    → BitsOf (entries - 1) own → Decides same (Makes own keys bytes)
    → text ≡ contents_text (flat_map run_line rs) keys used same
    → Told bytes count entries text
tells_page bytes count entries p keys used rs own same text o keys-are used-are runs-are own_is same-is says =
    let a : Accepted bytes count entries o.accepted.0 o.accepted.1 = o.accepted.2 in
    let a' : Accepted p.page.now p.count p.entries o.accepted.0 o.accepted.1 =
    subst₃ (λ b n e. Accepted b n e o.accepted.0 o.accepted.1) (sym o.page_is) (sym o.count_is) (sym o.entries_is) a in
    let c : keys_of o.accepted.0 p.count o.accepted.1 ≡ keys_of o.accepted.0 count o.accepted.1 = ap (λ t. keys_of o.accepted.0 t o.accepted.1) o.count_is in
    let k : keys ≡ keys_of o.accepted.0 count o.accepted.1 = keys-are o.accepted.0 o.accepted.1 a'.meaning ∙ c in
    let r : rs ≡ o.accepted.1 = runs-are o.accepted.0 o.accepted.1 a'.meaning in
    let m : Decides same (Makes own (keys_of o.accepted.0 count o.accepted.1) bytes) = subst (λ t. Decides same (Makes own t bytes)) k same-is in
    let l = own_limits own entries (keys_of o.accepted.0 count o.accepted.1) own_is a.limits.few_entries (omega (arith, length-keys o.accepted.0 count o.accepted.1, a.limits.few_values)) a.inside in
    record {
      width = o.accepted.0;
      runs = o.accepted.1;
      accepted = a;
      used = used;
      once = subst (λ t. Once t used) c (used-are o.accepted.0 o.accepted.1 a');
      own_width = own;
      own = own_is;
      same = same;
      decides = decides_same own (keys_of o.accepted.0 count o.accepted.1) bytes same l.0 l.1 m;
      says = says ∙ ap₂ (λ x y. contents_text (flat_map run_line x) y used same) r k;
    }
