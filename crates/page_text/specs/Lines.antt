-- The parts of a text before and behind the first of a given byte. Assumes nothing.
use Rattle.std.specs.Prelude.{ℕ, cond, List, [], ◌∷◌, ◌==◌}

-- what stands before the first s, or the whole text where there is no s
unfoldable pub before : ℕ → List ℕ → List ℕ
before s [] = []
before s (b ∷ bs) = cond (b == s) [] (b ∷ before s bs)

-- what stands behind the first s, or nothing where there is no s
unfoldable pub behind : ℕ → List ℕ → List ℕ
behind s [] = []
behind s (b ∷ bs) = cond (b == s) bs (behind s bs)
