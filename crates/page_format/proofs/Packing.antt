-- Packed rows: size, steps of the packing loop, and reading back.
use Rattle.std.proofs.Common.{◌≡◌, ℕ, zero, suc, ◌+◌, ◌-◌, ◌*◌, ◌/◌, ◌%◌, ◌^◌, ◌<◌, ◌≤◌, List, [], ◌∷◌, ◌++◌, length, get_or, take, drop, sym, refl, ap, ◌∙◌, subst, ap₂, mul_assoc, mul_comm, add-mul, mul-one, mul-add, arith, pow_mono, length-append}
use native.Mathlib.Nat.{add-mul-mod_self_left}
use lib.Bits.{bit_or}
use Rattle.std.proofs.lemmas.List.{append_assoc, drop_more, drop_all, length-map}
use Rattle.std.proofs.lemmas.Nat.{pow-add, pow_pos, mul-le, shr-shr, shr_high, shr_below, mod_low, mod_below, field_of, shl_whole, or_shifted, or_comm}
use Rattle.page_format.specs.Bits.{le_bytes, le_number, packed_number, packed_bytes, packed_value, low_bits, bytes_for}
use Rattle.page_format.specs.Laws.{PackedReadsBack, PackedLength, LeReadsBack}
use Rattle.page_format.proofs.Endian.{length-le_bytes, le_append, le_low, le_reads, le_split, le_shift}

pub packed_length : PackedLength
unfolding packed_bytes
packed_length w vs = length-le_bytes _ _

pub le_reads_back : LeReadsBack
le_reads_back n x = (length-le_bytes n x, le_reads n x)

low_below : (w v : ℕ) → v % 2 ^ w < 2 ^ w
low_below w v = mod_below v (2 ^ w) (pow_pos w)

-- the row's number is as long as the row
pub packed_below : (w : ℕ) (vs : List ℕ) → packed_number w (low_bits w vs) < 2 ^ (length vs * w)
unfolding packed_number
packed_below w [] = let e : 0 * w ≡ 0 = omega arith in rw e (omega arith)
packed_below w (v ∷ vs) =
    let e : suc (length vs) * w ≡ w + length vs * w = omega (arith, add-mul 1 (length vs) w) in
    let p = packed_below w vs in
    let q = mul-le (2 ^ w) (packed_number w (low_bits w vs) + 1) (2 ^ w) (2 ^ (length vs * w)) (omega arith) (omega arith) in
    rw (e, pow-add 2 w (length vs * w)) (omega (arith, low_below w v, mul-add (2 ^ w) (packed_number w (low_bits w vs)) 1, mul-one (2 ^ w)))

-- the value at place i of the row's number
pub packed_at : (w : ℕ) (vs : List ℕ) (i : ℕ) → i < length vs → packed_number w (low_bits w vs) / 2 ^ (i * w) % 2 ^ w ≡ get_or vs i 0 % 2 ^ w
unfolding packed_number
packed_at w [] i h = absurd (omega arith)
packed_at w (v ∷ vs) zero h =
    let e : 0 * w ≡ 0 = omega arith in
    let f : (v % 2 ^ w + 2 ^ w * packed_number w (low_bits w vs)) / 1 ≡ packed_number w (low_bits w vs) * 2 ^ w + v % 2 ^ w = omega (arith, mul_comm (2 ^ w) (packed_number w (low_bits w vs))) in
    rw (e, f) (mod_low (packed_number w (low_bits w vs)) w (v % 2 ^ w) (low_below w v))
packed_at w (v ∷ vs) (suc i) h =
    let e : suc i * w ≡ w + i * w = omega (arith, add-mul 1 i w) in
    let f : v % 2 ^ w + 2 ^ w * packed_number w (low_bits w vs) ≡ packed_number w (low_bits w vs) * 2 ^ w + v % 2 ^ w = omega (arith, mul_comm (2 ^ w) (packed_number w (low_bits w vs))) in
    rw (e, ← shr-shr (v % 2 ^ w + 2 ^ w * packed_number w (low_bits w vs)) w (i * w), f, shr_high (packed_number w (low_bits w vs)) w (v % 2 ^ w) (low_below w v)) (packed_at w vs i (omega arith))

pub packed_reads_back : PackedReadsBack
unfolding packed_bytes packed_value
packed_reads_back w vs i h =
    let l : length (low_bits w vs) ≡ length vs = length-map vs (λ v. v % 2 ^ w) in
    let e : length vs * w ≤ 8 * ((length vs * w + 7) / 8) = omega arith in
    let p : 2 ^ (length vs * w) ≤ 2 ^ (8 * ((length vs * w + 7) / 8)) = pow_mono e in
    let n : le_number (le_bytes ((length vs * w + 7) / 8) (packed_number w (low_bits w vs))) ≡ packed_number w (low_bits w vs) = le_reads _ _ (omega (arith, packed_below w vs)) in
    rw (l, n) (packed_at w vs i h)

-- the packing loop: at value i, `front` is written, and `held` has the `bits` bits behind it
pub record Row (w : ℕ) (vs : List ℕ) (bits held i : ℕ) (front : List ℕ) : Type 0 where
  pub few : bits < 64
  pub small : held < 2 ^ bits
  pub so_far : 8 * length front + bits ≡ i * w
  pub whole : front ++ le_bytes (bytes_for (length vs * w) - length front) (held + 2 ^ bits * packed_number w (low_bits w (drop i vs))) ≡ packed_bytes w (low_bits w vs)

pub row_start : (w : ℕ) (vs : List ℕ) → Row w vs 0 0 0 []
unfolding packed_bytes
row_start w vs =
    let n : 0 + 1 * packed_number w (low_bits w vs) ≡ packed_number w (low_bits w vs) = omega arith in
    let l : length (low_bits w vs) ≡ length vs = length-map vs (λ v. v % 2 ^ w) in
    let z : bytes_for (length vs * w) - 0 ≡ bytes_for (length vs * w) = omega arith in
    record { few = omega arith; small = omega arith; so_far = omega arith; whole = rw (n, l, z) refl }

-- a value more above the bits that are held
pub absorbs : (w bits held v : ℕ) → bits < 64 → w ≤ 64 → held < 2 ^ bits → v < 2 ^ w
    → (bit_or held (v * 2 ^ bits % 2 ^ 128) ≡ held + 2 ^ bits * v) × (held + 2 ^ bits * v < 2 ^ (bits + w))
absorbs w bits held v few narrow small fits =
    let m : v * 2 ^ bits % 2 ^ 128 ≡ v * 2 ^ bits = shl_whole v w bits 128 fits (omega arith) in (
      rw m (or_comm held (v * 2 ^ bits) ∙ or_shifted v bits held small ∙ omega (arith, mul_comm v (2 ^ bits))),
      rw (pow-add 2 bits w) (omega (arith, mul-le (2 ^ bits) (v + 1) (2 ^ bits) (2 ^ w) (omega arith) (omega arith), mul-add (2 ^ bits) v 1, mul-one (2 ^ bits))),
    )

module _ (w : ℕ) (vs front : List ℕ) (bits held i : ℕ) (r : Row w vs bits held i front) (in' : i < length vs) where
  step : held + 2 ^ bits * packed_number w (low_bits w (drop i vs))
      ≡ (held + 2 ^ bits * (get_or vs i 0 % 2 ^ w)) + 2 ^ (bits + w) * packed_number w (low_bits w (drop (i + 1) vs))
  unfolding packed_number
  step =
      let v = get_or vs i 0 % 2 ^ w in
      let n = packed_number w (low_bits w (drop (i + 1) vs)) in
      rw (drop_more vs i 0 in', pow-add 2 bits w)
      (omega (arith, mul-add (2 ^ bits) (get_or vs i 0 % 2 ^ w) (2 ^ w * packed_number w (low_bits w (drop (i + 1) vs))), mul_assoc (2 ^ bits) (2 ^ w) (packed_number w (low_bits w (drop (i + 1) vs)))))

  before_end : (i + 1) * w ≤ length vs * w
  before_end = mul-le (i + 1) w (length vs) w (omega arith) (omega arith)

  -- eight bytes more have their place
  pub row_room : 64 ≤ bits + w → length front + 8 ≤ bytes_for (length vs * w)
  row_room full = omega (arith, before_end, add-mul i 1 w, r.so_far)

  pub row_keeps : (h : ℕ) → h ≡ held + 2 ^ bits * (get_or vs i 0 % 2 ^ w) → h < 2 ^ (bits + w) → bits + w < 64 → Row w vs (bits + w) h (i + 1) front
  row_keeps h is small few = record {
    few = few;
    small = small;
    so_far = omega (arith, add-mul i 1 w, r.so_far);
    whole = rw is (ap (λ t. front ++ le_bytes (bytes_for (length vs * w) - length front) t) (sym step) ∙ r.whole);
  }

  pub row_writes : (h : ℕ) → h ≡ held + 2 ^ bits * (get_or vs i 0 % 2 ^ w) → h < 2 ^ (bits + w) → 64 ≤ bits + w → w ≤ 64
      → Row w vs (bits + w - 64) (h / 2 ^ 64) (i + 1) (front ++ le_bytes 8 (h % 2 ^ 64))
  row_writes h is small full narrow =
      let n = packed_number w (low_bits w (drop (i + 1) vs)) in
      let e : bits + w ≡ 64 + (bits + w - 64) = omega arith in
      let e' : bits + w ≡ (bits + w - 64) + 64 = omega arith in
      let room = row_room full in
      let l : length (front ++ le_bytes 8 (h % 2 ^ 64)) ≡ length front + 8 = length-append front _ ∙ ap (λ t. length front + t) (length-le_bytes 8 _) in
      let x : held + 2 ^ bits * packed_number w (low_bits w (drop i vs)) ≡ h + 2 ^ 64 * (2 ^ (bits + w - 64) * packed_number w (low_bits w (drop (i + 1) vs))) =
      step ∙ ap (λ t. t + 2 ^ (bits + w) * packed_number w (low_bits w (drop (i + 1) vs))) (sym is)
      ∙ ap (λ t. h + t) (ap (λ t. t * packed_number w (low_bits w (drop (i + 1) vs))) (ap (λ t. 2 ^ t) e ∙ pow-add 2 64 (bits + w - 64)) ∙ mul_assoc (2 ^ 64) (2 ^ (bits + w - 64)) (packed_number w (low_bits w (drop (i + 1) vs)))) in
      let lo : (h + 2 ^ 64 * (2 ^ (bits + w - 64) * packed_number w (low_bits w (drop (i + 1) vs)))) % 2 ^ 64 ≡ h % 2 ^ 64 = omega arith in
      let hi : (h + 2 ^ 64 * (2 ^ (bits + w - 64) * packed_number w (low_bits w (drop (i + 1) vs)))) / 2 ^ 64 ≡ h / 2 ^ 64 + 2 ^ (bits + w - 64) * packed_number w (low_bits w (drop (i + 1) vs)) = omega arith in
      let m : bytes_for (length vs * w) - length front ≡ 8 + (bytes_for (length vs * w) - (length front + 8)) = omega arith in
      let all : le_bytes (bytes_for (length vs * w) - length front) (held + 2 ^ bits * packed_number w (low_bits w (drop i vs)))
      ≡ le_bytes 8 (h % 2 ^ 64) ++ le_bytes (bytes_for (length vs * w) - (length front + 8)) (h / 2 ^ 64 + 2 ^ (bits + w - 64) * packed_number w (low_bits w (drop (i + 1) vs))) =
      rw (m, x) (le_append 8 _ _ ∙ ap₂ (λ a b. a ++ b) (sym (le_low 8 _) ∙ ap (le_bytes 8) lo) (ap (le_bytes _) hi)) in
      record {
        few = omega (arith, r.few);
        small = shr_below h (bits + w - 64) 64 (subst (λ t. h < 2 ^ t) e' small);
        so_far = omega (arith, add-mul i 1 w, r.so_far, l);
        whole = rw l (append_assoc front _ _ ∙ ap (λ t. front ++ t) (sym all) ∙ r.whole);
      }

pub row_ends : (w : ℕ) (vs front : List ℕ) (bits held i n : ℕ) → Row w vs bits held i front → i ≡ length vs → n ≡ (bits + 7) / 8 → front ++ le_bytes n held ≡ packed_bytes w (low_bits w vs)
unfolding packed_number
row_ends w vs front bits held i n r e long =
    let q : i * w ≡ length vs * w = ap (λ t. t * w) e in
    let d : drop i vs ≡ [] = drop_all i vs (omega arith) in
    let m : bytes_for (length vs * w) - length front ≡ n = omega (arith, r.so_far) in
    let x : held + 2 ^ bits * packed_number w (low_bits w (drop i vs)) ≡ held = rw d (omega arith) in
    sym (ap (λ t. front ++ t) (ap₂ (λ a b. le_bytes a b) m x)) ∙ r.whole

-- the bytes that a value lies in are enough to read it
pub value_in : (w i : ℕ) (bs : List ℕ) (start len shift : ℕ) → ((k : ℕ) → get_or bs k 0 < 256) → i * w ≡ 8 * start + shift → start ≤ length bs → shift + w ≤ 8 * len
    → le_number (take len (drop start bs)) / 2 ^ shift % 2 ^ w ≡ packed_value w bs i
unfolding packed_value
value_in w i bs start len shift bytes at in' wide =
    let y : le_number bs / 2 ^ (i * w) ≡ le_number (drop start bs) / 2 ^ shift =
    ap (λ t. le_number bs / 2 ^ t) at ∙ sym (shr-shr (le_number bs) (8 * start) shift) ∙ ap (λ t. t / 2 ^ shift) (le_shift start bs bytes in') in
    let d = drop start bs in
    let g : 8 * len ≡ (w + shift) + (8 * len - (w + shift)) = omega arith in
    let s : le_number (drop start bs) ≡ le_number (take len (drop start bs)) + 2 ^ (w + shift) * (2 ^ (8 * len - (w + shift)) * le_number (drop len (drop start bs))) =
    le_split len (drop start bs) ∙ ap (λ t. le_number (take len (drop start bs)) + t) (ap (λ t. t * le_number (drop len (drop start bs))) (ap (λ t. 2 ^ t) g ∙ pow-add 2 (w + shift) (8 * len - (w + shift))) ∙ mul_assoc (2 ^ (w + shift)) (2 ^ (8 * len - (w + shift))) (le_number (drop len (drop start bs)))) in
    let m : le_number (drop start bs) % 2 ^ (w + shift) ≡ le_number (take len (drop start bs)) % 2 ^ (w + shift) =
    ap (λ t. t % 2 ^ (w + shift)) s ∙ add-mul-mod_self_left (le_number (take len (drop start bs))) (2 ^ (w + shift)) (2 ^ (8 * len - (w + shift)) * le_number (drop len (drop start bs))) in
    sym (field_of (le_number (take len (drop start bs))) w shift) ∙ ap (λ t. t / 2 ^ shift) (sym m) ∙ field_of (le_number (drop start bs)) w shift ∙ ap (λ t. t % 2 ^ w) (sym y)

pub row_length : (w : ℕ) (vs : List ℕ) → length (packed_bytes w (low_bits w vs)) ≡ bytes_for (length vs * w)
row_length w vs = packed_length w (low_bits w vs) ∙ ap (λ t. bytes_for (t * w)) (length-map vs (λ v. v % 2 ^ w))
