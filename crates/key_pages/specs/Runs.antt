-- The runs of a list of dictionary keys, and the bytes of a page of runs.
use Rattle.std.specs.Prelude.{ℕ, zero, suc, ◌+◌, ◌-◌, ◌*◌, ◌/◌, Bool, cond, ◌&&◌, List, [], ◌∷◌, ◌++◌, length, take, drop, replicate, ◌==◌, nat_le, nat_lt, slice_index}
use Rattle.std.specs.List.{flat_map}
use Rattle.page_format.specs.Bits.{varint, le_bytes, packed_bytes, bytes_for}
use Rattle.page_format.specs.Limits.{run_groups}

-- A run: so many repeats of one key, or groups of eight keys.
pub data Run : Type 0 where
  repeat : ℕ → ℕ → Run
  packed : List (List ℕ) → Run

-- how many keys at the front equal k
abbrev pub front : ℕ → List ℕ → ℕ
front k [] = 0
front k (x ∷ xs) = cond (x == k) (suc (front k xs)) 0

-- how many keys at the front equal the first
abbrev pub lead : List ℕ → ℕ
lead [] = 0
lead (k ∷ ks) = suc (front k ks)

abbrev pub first : List ℕ → ℕ
first ks = slice_index ks 0

-- a part group filled with 0
abbrev pub filled : List ℕ → List ℕ
filled ks = ks ++ replicate (8 - length ks) 0

-- the first eight keys are there, and not all equal
abbrev pub mixed : List ℕ → Bool
mixed ks = nat_lt (lead ks) 8 && nat_le 8 (length ks)

-- the eights at the front that are not all equal, as many as follow but at most n
unfoldable pub eights : ℕ → List ℕ → List (List ℕ)
eights zero ks = []
eights (suc n) ks = cond (mixed ks) (take 8 ks ∷ eights n (drop 8 ks)) []

-- fewer than eight keys that join no packed run
unfoldable pub few : List ℕ → List Run
few ks = cond (length ks == 0) [] (cond (lead ks == length ks) (repeat (length ks) (first ks) ∷ []) (packed (filled ks ∷ []) ∷ []))

-- a packed run of the groups gs, and what comes of the keys left behind it
unfoldable pub after_groups : (List ℕ → List Run) → List (List ℕ) → List ℕ → List Run
after_groups rest gs left =
    cond (nat_lt 0 (length left) && (nat_lt (length left) 8 && nat_lt (length gs) run_groups))
    (packed (gs ++ filled left ∷ []) ∷ [])
    (packed gs ∷ rest left)

-- the first run of the keys, and the runs of the keys behind it
unfoldable pub cut_by : (List ℕ → List Run) → List ℕ → List Run
cut_by rest ks =
    cond (nat_le 8 (lead ks))
    (repeat (lead ks) (first ks) ∷ rest (drop (lead ks) ks))
    (cond (nat_lt (length ks) 8)
    (few ks)
    (after_groups rest (eights run_groups ks) (drop (8 * length (eights run_groups ks)) ks)))

-- each run has a key, so as many turns as there are keys do
unfoldable pub cut_in : ℕ → List ℕ → List Run
cut_in zero ks = []
cut_in (suc n) ks = cut_by (cut_in n) ks

unfoldable pub cut : List ℕ → List Run
cut ks = cut_in (length ks) ks

unfoldable pub run_bytes : ℕ → Run → List ℕ
run_bytes w (repeat n k) = varint (2 * n) ++ le_bytes (bytes_for w) k
run_bytes w (packed gs) = (2 * length gs + 1) ∷ flat_map (packed_bytes w) gs

-- the width, then the runs of the cut
unfoldable pub page : ℕ → List ℕ → List ℕ
page w ks = w ∷ flat_map (run_bytes w) (cut ks)

-- bytes that the runs of n keys take at most, without the width
abbrev pub most_bytes : ℕ → ℕ → ℕ
most_bytes w n = (n + 7) / 8 * (1 + w)
