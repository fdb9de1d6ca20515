-- Numbers with a space before each. Assumes nothing.
use Rattle.std.proofs.Common.{◌≡◌, ℕ, ◌+◌, ◌<◌, List, [], ◌∷◌, ◌++◌, length, get_or, take, decimal, sym, refl, ap, ◌∙◌}
use Rattle.std.proofs.lemmas.List.{append-nil, append_assoc, take_more}
use Rattle.std.proofs.lemmas.Grind.{common_steps}
use Rattle.page_text.specs.Written.{spaced}

pub spaced_append : (xs ys : List ℕ) → spaced (xs ++ ys) ≡ spaced xs ++ spaced ys
unfolding spaced
spaced_append [] ys = refl
spaced_append (x ∷ xs) ys = ap (λ t. 32 ∷ (decimal x ++ t)) (spaced_append xs ys) ∙ ap (λ t. 32 ∷ t) (sym (append_assoc (decimal x) (spaced xs) (spaced ys)))

-- a number more
pub spaced_more : (xs : List ℕ) (i : ℕ) → i < length xs → spaced (take (i + 1) xs) ≡ spaced (take i xs) ++ (32 ∷ decimal (get_or xs i 0))
unfolding spaced
spaced_more xs i l =
    ap spaced (take_more xs i 0 l) ∙ spaced_append (take i xs) (get_or xs i 0 ∷ []) ∙ ap (λ t. spaced (take i xs) ++ (32 ∷ t)) (append-nil (decimal (get_or xs i 0)))

pub ruleset spaced_steps = (common_steps, spaced_more)
