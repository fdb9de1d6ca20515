-- The runs of a key list, as rules: the last run's end splits the keys, and the rules say which run comes next.
use Rattle.std.specs.Prelude.{◌≡◌, ℕ, ◌<◌, ◌≤◌, ◌⊎◌, List, [], ◌∷◌, ◌++◌, length, replicate}
use Rattle.std.specs.List.{flat_map}
use Rattle.page_format.specs.Limits.{run_groups}
use Rattle.key_pages.specs.Runs.{Run, repeat, packed, front, lead, filled}

abbrev pub flat : List (List ℕ) → List ℕ
flat gs = flat_map (λ g. g) gs

-- groups of eight keys, none all equal
abbrev pub Mixed : List (List ℕ) → Type 0
Mixed [] = Unit {0}
Mixed (g ∷ gs) = (length g ≡ 8) × (lead g < 8) × Mixed gs

pub data Cuts : List ℕ → List Run → Type 0 where
  none : Cuts [] []
  -- eight equal keys and every equal one right behind them
  repeats : {ks rest : List ℕ} {rs : List Run} (r k : ℕ) → ks ≡ replicate r k ++ rest → 8 ≤ r → front k rest ≡ 0 → Cuts rest rs → Cuts ks (repeat r k ∷ rs)
  -- eights not all equal, as many as follow but at most 63
  packs : {ks rest : List ℕ} {rs : List Run} (gs : List (List ℕ)) → ks ≡ flat gs ++ rest → Mixed gs → 0 < length gs → length gs ≤ run_groups
      → (length gs ≡ run_groups) ⊎ (8 ≤ lead rest) → Cuts rest rs → Cuts ks (packed gs ∷ rs)
  -- fewer than eight left, behind a packed run with room
  fills : {ks : List ℕ} (gs : List (List ℕ)) (p : List ℕ) → ks ≡ flat gs ++ p → Mixed gs → 0 < length gs → length gs < run_groups → 0 < length p → length p < 8
      → Cuts ks (packed (gs ++ filled p ∷ []) ∷ [])
  stops : {ks : List ℕ} (gs : List (List ℕ)) → ks ≡ flat gs ++ [] → Mixed gs → 0 < length gs → length gs < run_groups → Cuts ks (packed gs ∷ [])
  -- fewer than eight left alone
  alike : {ks : List ℕ} (n k : ℕ) → ks ≡ replicate n k → 0 < n → n < 8 → Cuts ks (repeat n k ∷ [])
  unlike : {ks : List ℕ} → length ks < 8 → lead ks < length ks → Cuts ks (packed (filled ks ∷ []) ∷ [])
