-- The writer's pages against the format's meaning.
use Rattle.std.specs.Prelude.{◌≡◌, ℕ, ◌^◌, ◌<◌, ◌≤◌, List, length}
use Rattle.std.specs.List.{AllByRecursion}
use Rattle.page_format.specs.Limits.{key_width, page_values}
use Rattle.key_pages.specs.Runs.{page}
use Rattle.key_pages.specs.Meaning.{ReadRun, Means, keys_of}

-- every page of the cut, read by the format with its count, gives its keys back
abbrev pub PageReadsBack : Type 0
PageReadsBack = (w : ℕ) (ks : List ℕ) → w ≤ key_width → length ks ≤ page_values → AllByRecursion (λ k. k < 2 ^ w) ks
    → (runs : List ReadRun) × Means (page w ks) (length ks) w runs × (keys_of w (length ks) runs ≡ ks)
