-- Our answers in the words of the recorder.
use Rattle.std.specs.Prelude.{◌≡◌, ℕ, ◌^◌, ◌<◌, List, ◌++◌, length, codes, decimal}
use Rattle.std.specs.List.{AllByRecursion}
use Rattle.page_text.specs.Pages.{hex}
use Rattle.key_pages.specs.Claims.{WithinLimits}
use Rattle.key_pages.specs.Runs.{page, most_bytes}

-- where the keys are within the limits and fit the width, the text is their page
abbrev pub PageAnswer : ℕ → List ℕ → List ℕ → Type 0
PageAnswer w keys text = WithinLimits w (length keys) → AllByRecursion (λ k. k < 2 ^ w) keys → text ≡ codes "keys :" ++ hex (page w keys)

-- within the limits, the text is the bound
abbrev pub SizeAnswer : ℕ → ℕ → List ℕ → Type 0
SizeAnswer w count text = WithinLimits w count → text ≡ codes "maxsize " ++ decimal (most_bytes w count)
