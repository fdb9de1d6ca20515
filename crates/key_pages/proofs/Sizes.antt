-- How long a page is at most.
use Rattle.std.proofs.Common.{◌≡◌, ℕ, zero, suc, ◌+◌, ◌-◌, ◌*◌, ◌/◌, ◌<◌, ◌≤◌, List, [], ◌∷◌, ◌++◌, length, drop, replicate, ◌∙◌, add-mul, mul-add, arith, length-append, length-drop}
use lib.ListN.{length-replicate}
use Rattle.std.specs.List.{flat_map, AllByRecursion}
use Rattle.std.proofs.lemmas.List.{length_push, length-take-le}
use Rattle.std.proofs.ByRecursion.{All-push}
use Rattle.std.proofs.lemmas.Nat.{mul-le}
use Rattle.std.proofs.lemmas.Bool.Decides.{nat_tests}
use Rattle.page_format.proofs.Endian.{length-le_bytes}
use Rattle.page_format.proofs.Packing.{packed_length}
use Rattle.key_pages.specs.Runs.{Run, repeat, packed, lead, first, filled, eights, few, after_groups, cut_by, cut_in, cut, run_bytes, page}
use Rattle.page_format.specs.Bits.{le_bytes, varint_in, varint, packed_bytes, bytes_for}
use Rattle.key_pages.proofs.Cutting.{lead_le, eights_more}

varint_in_le : (n x : ℕ) → length (varint_in n x) ≤ 1 + x / 128
unfolding varint_in
varint_in_le zero x = omega arith
varint_in_le (suc n) x = grind (arith, nat_tests, varint_in_le n (x / 128))

varint_le : (x : ℕ) → length (varint x) ≤ 1 + x / 128
unfolding varint
varint_le x = varint_in_le x x

-- groups of eight keys
abbrev Eights : List (List ℕ) → Type 0
Eights gs = AllByRecursion (λ g. length g ≡ 8) gs

pub length-group : (w : ℕ) (g : List ℕ) → length g ≡ 8 → length (packed_bytes w g) ≡ w
length-group w g h = packed_length w g ∙ rw h (omega arith)

length-groups : (w : ℕ) (gs : List (List ℕ)) → Eights gs → length (flat_map (packed_bytes w) gs) ≡ length gs * w
length-groups w [] h = omega arith
length-groups w (g ∷ gs) h =
    omega (arith, length-append (packed_bytes w g) (flat_map (packed_bytes w) gs), length-group w g h.0, length-groups w gs h.1, add-mul 1 (length gs) w)

pub length-filled : (p : List ℕ) → length p < 8 → length (filled p) ≡ 8
length-filled p h = omega (arith, length-append p (replicate (8 - length p) 0), length-replicate {A = ℕ} (8 - length p) 0)

repeat_le : (w n k : ℕ) → length (run_bytes w (repeat n k)) ≤ 1 + n / 64 + w
unfolding run_bytes
repeat_le w n k = omega (arith, length-append (varint (2 * n)) (le_bytes (bytes_for w) k), length-le_bytes (bytes_for w) k, varint_le (2 * n))

-- a repeat run of eight or more takes no more than the eights in it would
repeat_fits : (w n k : ℕ) → 8 ≤ n → length (run_bytes w (repeat n k)) ≤ n / 8 * (1 + w)
repeat_fits w n k h = omega (arith, repeat_le w n k, mul-le 1 w (n / 8) w (omega arith) (omega arith), mul-add (n / 8) 1 w)

packed_fits : (w : ℕ) (gs : List (List ℕ)) → Eights gs → 0 < length gs → length (run_bytes w (packed gs)) ≤ length gs * (1 + w)
unfolding run_bytes
packed_fits w gs a h = omega (arith, length-groups w gs a, mul-add (length gs) 1 w)

abbrev size : ℕ → List Run → ℕ
size w rs = length (flat_map (run_bytes w) rs)

size_more : (w : ℕ) (r : Run) (rs : List Run) (a b n : ℕ) → length (run_bytes w r) ≤ a * (1 + w) → size w rs ≤ b * (1 + w) → a + b ≤ n → size w (r ∷ rs) ≤ n * (1 + w)
size_more w r rs a b n h k l = omega (arith, length-append (run_bytes w r) (flat_map (run_bytes w) rs), add-mul a b (1 + w), mul-le (a + b) (1 + w) n (1 + w) l (omega arith))

eights_le : (n : ℕ) (ks : List ℕ) → 8 * length (eights n ks) ≤ length ks
unfolding eights
eights_le zero ks = omega arith
eights_le (suc n) ks = grind (arith, nat_tests, eights_le n (drop 8 ks), length-drop 8 ks)

eights_eight : (n : ℕ) (ks : List ℕ) → Eights (eights n ks)
unfolding eights
eights_eight zero ks = tt
eights_eight (suc n) ks = grind (arith, nat_tests, length-take-le 8 ks, eights_eight n (drop 8 ks))

Fits : ℕ → (List ℕ → List Run) → Type 0
Fits w F = (ks : List ℕ) → size w (F ks) ≤ (length ks + 7) / 8 * (1 + w)

few_fits : (w : ℕ) → (ks : List ℕ) → length ks < 8 → size w (few ks) ≤ (length ks + 7) / 8 * (1 + w)
unfolding few
few_fits w ks h =
    grind (arith, nat_tests, size_more w (repeat (length ks) (first ks)) [] 1 0 ((length ks + 7) / 8), repeat_le w (length ks) (first ks), size_more w (packed (filled ks ∷ [])) [] 1 0 ((length ks + 7) / 8), packed_fits w (filled ks ∷ []), length-filled ks h)

after_fits : (w : ℕ) (F : List ℕ → List Run) (gs : List (List ℕ)) (left : List ℕ) (n : ℕ) → Fits w F → Eights gs → 0 < length gs → 8 * length gs + length left ≤ n
    → size w (after_groups F gs left) ≤ (n + 7) / 8 * (1 + w)
unfolding after_groups Fits
after_fits w F gs left n fits eight h l =
    grind (
      arith,
      nat_tests,
      size_more w (packed (gs ++ filled left ∷ [])) [] (length gs + 1) 0 ((n + 7) / 8),
      packed_fits w (gs ++ filled left ∷ []),
      All-push (λ g. length g ≡ 8) gs (filled left) eight,
      length-filled left,
      length_push gs (filled left),
      size_more w (packed gs) (F left) (length gs) ((length left + 7) / 8) ((n + 7) / 8),
      packed_fits w gs eight h,
      fits left,
    )

cut_by_fits : (w : ℕ) (F : List ℕ → List Run) → Fits w F → Fits w (cut_by F)
unfolding cut_by Fits
cut_by_fits w F fits ks =
    let n = (length ks + 7) / 8 in
    grind (
      arith,
      nat_tests,
      size_more w (repeat (lead ks) (first ks)) (F (drop (lead ks) ks)) (lead ks / 8) ((length (drop (lead ks) ks) + 7) / 8) n,
      repeat_fits w (lead ks) (first ks),
      fits (drop (lead ks) ks),
      length-drop (lead ks) ks,
      lead_le ks,
      few_fits w ks,
      after_fits w F (eights 63 ks) (drop (8 * length (eights 63 ks)) ks) (length ks) fits (eights_eight 63 ks),
      eights_more 62 ks,
      eights_le 63 ks,
      length-drop (8 * length (eights 63 ks)) ks,
    )

cut_in_fits : (w n : ℕ) → Fits w (cut_in n)
unfolding cut_in Fits
cut_in_fits w zero ks = omega arith
cut_in_fits w (suc n) ks = cut_by_fits w (cut_in n) (cut_in_fits w n) ks

pub page_fits : (w : ℕ) (ks : List ℕ) → length (page w ks) ≤ 1 + (length ks + 7) / 8 * (1 + w)
unfolding page cut Fits
page_fits w ks = omega (arith, cut_in_fits w (length ks) ks)
