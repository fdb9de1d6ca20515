-- The end of a page, and the keys of a whole page.
use Rattle.std.proofs.Common.{◌≡◌, ℕ, ◌+◌, ◌/◌, ◌<◌, ◌≤◌, ◌⊎◌, List, [], ◌∷◌, ◌++◌, length, get_or, take, sym, refl, ap, ◌∙◌, subst, inl, inr, arith, length-append}
use Rattle.std.proofs.lemmas.List.{take_all, take_more, length-take-le}
use Rattle.std.proofs.lemmas.Nat.{mul-le}
use Rattle.std.proofs.lemmas.Bool.Decides.{nat_tests}
use Rattle.page_format.specs.declared.bit_writer.BitWriter.{BitWriter}
use Rattle.page_format.specs.Limits.{page_values}
use Rattle.page_format.specs.Writes.{Appends}
use Rattle.key_pages.specs.Runs.{Run, repeat, packed, run_bytes, filled, page, most_bytes}
use Rattle.key_pages.specs.Machine.{Writer, start, closed, put, puts, ends, finish}
use Rattle.key_pages.specs.Held.{Stands, Holds, Counts, Grows, Extends, bytes, front_of, Room, Small, Ready, Ending, Ended, Refines}
use Rattle.key_pages.specs.declared.encoder.RleEncoder.{RleEncoder}
use Rattle.key_pages.specs.declared.width.KeyWidth.{KeyWidth}
use Rattle.key_pages.specs.declared.encoder.State.{State}
use Rattle.key_pages.specs.declared.encoder.State.TheVariants.{Repeating}
use Rattle.key_pages.proofs.Sizes.{page_fits}
use Rattle.key_pages.proofs.Steps.{puts_good, start_sound, machine_cuts}
use Rattle.key_pages.proofs.Carried.{bytes_push, extends_both, extends_appends, packing_longer}

-- the last keys join the packed run, or make one
pub ends_packs : (rs : List Run) (gs : List (List ℕ)) (p : List ℕ) (last count : ℕ) → 0 < length p → (length gs ≡ 0 → (count < 8) × (count ≡ length p → ⊥))
    → ends rs gs p last count ≡ closed rs (gs ++ filled p ∷ [])
ends_packs rs [] p last count some unlike = let (few, other) = unlike refl in grind (arith, nat_tests)
ends_packs rs (g ∷ gs) p last count some unlike = grind (arith, nat_tests)

-- the end makes the page no shorter
ends_longer : (w : ℕ) (rs : List Run) (gs : List (List ℕ)) (p : List ℕ) (last count : ℕ) → length (bytes w (closed rs gs)) ≤ length (bytes w (ends rs gs p last count))
ends_longer w rs [] p last count = grind (arith, nat_tests, bytes_push w rs (repeat count last), bytes_push w rs (packed (filled p ∷ [])), length-append {A = ℕ})
ends_longer w rs (g ∷ gs) p last count = grind (arith, nat_tests, packing_longer w rs (g ∷ gs) (filled p))

-- the end by a repeat run
abbrev pub Alike : Writer → Type 0
Alike m = (m.groups ≡ []) × ((8 ≤ m.count) ⊎ ((m.count < 8) × (0 < length m.part) × (m.count ≡ length m.part)))

finish_repeats : (m : Writer) → Alike m → finish m ≡ m.runs ++ repeat m.count m.last ∷ []
finish_repeats m (z, inl l) = rw z (grind (arith, nat_tests))
finish_repeats m (z, inr l) = rw z (grind (arith, nat_tests))

-- the end of the page by a repeat run of the last key
finish_bytes : {m : Writer} {e : RleEncoder} {out : BitWriter} (r : ℕ) → Stands m e out → r ≡ m.count → Alike m
    → bytes e.width.bits (finish m) ≡ front_of out ++ run_bytes e.width.bits (repeat r e.last)
finish_bytes {m} {e} {out} r h n a =
    let w = e.width.bits in
    let front : front_of out ≡ bytes w m.runs = h.front ∙ ap (λ t. bytes w (closed m.runs t)) a.0 in
    ap (bytes w) (finish_repeats m a) ∙ bytes_push w m.runs (repeat m.count m.last) ∙ rw (front, n, h.last_is) refl

pub ended : {H : Writer → RleEncoder → BitWriter → Type 0} {P : Writer → Type 0} {e : RleEncoder} {out out' : BitWriter} (r : ℕ)
    → ((m : Writer) → H m e out → P m → Stands m e out × (r ≡ m.count) × Alike m) → Appends (run_bytes e.width.bits (repeat r e.last)) out out' → Ended H P e out out'
ended r facts a = record {
  front = λ m h p. let f = facts m h p in a.wrote.front ∙ sym (finish_bytes r f.0 f.1 f.2);
  extends = extends_appends a;
}

pub repeats_long : {s : State} {r n : ℕ} → s ≡ Repeating r → Counts s n → (r ≡ n) × (8 ≤ n)
repeats_long {n} e c = subst (λ t. Counts t n) e c

-- whole pages

pub puts_push : (ks : List ℕ) (m : Writer) (k : ℕ) → puts m (ks ++ k ∷ []) ≡ put (puts m ks) k
puts_push [] m k = refl
puts_push (x ∷ ks) m k = puts_push ks (put m x) k

put_count : (m : Writer) (key n : ℕ) → m.count + 1 ≤ n → 8 ≤ n → (put m key).count ≤ n
put_count m key n h l = grind (arith, nat_tests)

puts_count : (ks : List ℕ) (m : Writer) (n : ℕ) → m.count ≤ n → 8 ≤ n → (puts m ks).count ≤ n + length ks
puts_count [] m n h l = omega arith
puts_count (k ∷ ks) m n h l = omega (arith, puts_count ks (put m k) (n + 1) (put_count m k (n + 1) (omega arith) (omega arith)) (omega arith))

pub puts_small : (ks : List ℕ) → length ks ≤ page_values → Small (puts start ks)
puts_small ks h =
    let s = (puts_good ks start start_sound).sound in
    record {
      part_short = s.part_short;
      groups_few = s.groups_few;
      count_small = omega (arith, puts_count ks start 8 (omega arith) (omega arith));
      repeating = λ z. (s.repeating z).0;
      grouping = λ z. (s.grouping z).low;
    }

pub finish_page : (w : ℕ) (ks : List ℕ) → bytes w (finish (puts start ks)) ≡ page w ks
unfolding page
finish_page w ks = ap (bytes w) (machine_cuts ks)

pub page_room : (w n : ℕ) (ks : List ℕ) → length ks ≤ n → length (page w ks) ≤ 1 + most_bytes w n
page_room w n ks h = omega (arith, page_fits w ks, mul-le ((length ks + 7) / 8) (1 + w) ((n + 7) / 8) (1 + w) (omega arith) (omega arith))

pub puts_room : (w n : ℕ) (ks : List ℕ) → length ks ≤ n → Room w (puts start ks) (1 + most_bytes w n)
puts_room w n ks h =
    let m = puts start ks in
    omega (arith, ends_longer w m.runs m.groups m.part m.last m.count, ap length (finish_page w ks), page_room w n ks h)

-- the code after the first i keys of a page
pub record After (w : KeyWidth) (keys : List ℕ) (i : ℕ) (out₀ : BitWriter) (e : RleEncoder) (out : BitWriter) : Type 0 where
  pub holds : Holds (puts start (take i keys)) e out
  pub width_is : e.width ≡ w
  pub extends : Extends out₀ out
  pub room : 1 + most_bytes w.bits (length keys) ≤ length out.bytes.now

module _ {w : KeyWidth} {keys : List ℕ} {i : ℕ} {out₀ : BitWriter} {e : RleEncoder} {out : BitWriter} (a : After w keys i out₀ e out) (few : length keys ≤ page_values) where
  room : 1 + most_bytes e.width.bits (length keys) ≤ length out.bytes.now
  room = omega (arith, a.room, ap (λ t. most_bytes t.bits (length keys)) a.width_is)

  small : i < length keys → Small (puts start (take i keys))
  small l = puts_small (take i keys) (omega (arith, length-take-le i keys (omega arith)))

  next : {key : ℕ} → key ≡ get_or keys i 0 → i < length keys → puts start (take (i + 1) keys) ≡ put (puts start (take i keys)) key
  next is l = ap (puts start) (take_more keys i 0 l) ∙ puts_push (take i keys) start (get_or keys i 0) ∙ ap (put (puts start (take i keys))) (sym is)

  pub put_ready : {key : ℕ} → key ≡ get_or keys i 0 → i < length keys → Ready Holds (λ m. put m key) Small e out
  put_ready is l = record {
    model = puts start (take i keys);
    held = a.holds;
    apt = small l;
    room = subst (λ t. Room e.width.bits t (length out.bytes.now)) (next is l)
        (omega (arith, room, puts_room e.width.bits (length keys) (take (i + 1) keys) (omega (arith, length-take-le (i + 1) keys (omega arith)))));
  }

  pub put_after : {key : ℕ} {e' : RleEncoder} {out' : BitWriter} → key ≡ get_or keys i 0 → i < length keys
      → Refines Holds (λ m. put m key) Small Holds e out e' out' → Grows e out e' out' → After w keys (i + 1) out₀ e' out'
  put_after {e'} {out'} is l rf g = record {
    holds = subst (λ t. Holds t e' out') (sym (next is l)) (rf _ a.holds (small l));
    width_is = g.width_is ∙ a.width_is;
    extends = extends_both a.extends g.extends;
    room = omega (arith, a.room, g.extends.long);
  }

  all : length keys ≤ i → Holds (puts start keys) e out
  all l = subst (λ t. Holds (puts start t) e out) (take_all i keys l) a.holds

  pub end_ready : length keys ≤ i → Ending Holds Small e out
  end_ready l = record {
    model = puts start keys;
    held = all l;
    apt = puts_small keys few;
    room = omega (arith, room, ap length (finish_page e.width.bits keys), page_room e.width.bits (length keys) keys (omega arith));
  }

  pub page_is : {out' : BitWriter} → length keys ≤ i → Ended Holds Small e out out' → front_of out' ≡ page w.bits keys
  page_is l f = f.front (puts start keys) (all l) (puts_small keys few) ∙ finish_page e.width.bits keys ∙ ap (λ t. page t.bits keys) a.width_is
