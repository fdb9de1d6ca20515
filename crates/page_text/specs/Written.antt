-- What the writers append. Assumes nothing.
use Rattle.std.specs.Prelude.{◌≡◌, ℕ, List, [], ◌∷◌, ◌++◌, decimal}

-- for each number a space, and then its decimal
unfoldable pub spaced : List ℕ → List ℕ
spaced [] = []
spaced (k ∷ ks) = 32 ∷ (decimal k ++ spaced ks)

-- the text begins with what was there before
abbrev pub Keeps : List ℕ → List ℕ → Type 0
Keeps was text = (more : List ℕ) × (text ≡ was ++ more)
