-- `before` and `behind`: a text is cut at its first s. Assumes nothing.
use Rattle.std.proofs.Common.{◌≡◌, ℕ, zero, suc, ◌+◌, ◌<◌, ◌⊎◌, List, [], ◌∷◌, ◌++◌, length, get_or, take, drop, ◌≢◌, sym, refl, ap, ◌∙◌, inl, inr, arith}
use Rattle.std.specs.List.{AllByRecursion}
use Rattle.std.proofs.lemmas.Bool.{eq-eqb, ne_eqb, cases_eq}
use Rattle.std.proofs.lemmas.List.{append-nil, take-append-drop, take_all, drop_more}
use Rattle.page_text.specs.Lines.{before, behind}

-- no byte of xs is s
abbrev pub Lacks : ℕ → List ℕ → Type 0
Lacks s xs = AllByRecursion (λ b. b ≢ s) xs

-- a front with no s stays in front
before_append : (s : ℕ) (p q : List ℕ) → Lacks s p → before s (p ++ q) ≡ p ++ before s q
unfolding before
before_append s [] q h = refl
before_append s (b ∷ p) q h = rw (ne_eqb b s h.0) (ap (λ l. b ∷ l) (before_append s p q h.1))

behind_append : (s : ℕ) (p q : List ℕ) → Lacks s p → behind s (p ++ q) ≡ behind s q
unfolding behind
behind_append s [] q h = refl
behind_append s (b ∷ p) q h = rw (ne_eqb b s h.0) (behind_append s p q h.1)

-- the parts of a text with a first s, and of one with none
pub before_at : (s : ℕ) (p q : List ℕ) → Lacks s p → before s (p ++ (s ∷ q)) ≡ p
unfolding before
before_at s p q h = before_append s p (s ∷ q) h ∙ rw (eq-eqb s s refl) (append-nil p)

pub behind_at : (s : ℕ) (p q : List ℕ) → Lacks s p → behind s (p ++ (s ∷ q)) ≡ q
unfolding behind
behind_at s p q h = behind_append s p (s ∷ q) h ∙ rw (eq-eqb s s refl) refl

pub before_all : (s : ℕ) (p : List ℕ) → Lacks s p → before s p ≡ p
unfolding before
before_all s p h = ap (before s) (sym (append-nil p)) ∙ before_append s p [] h ∙ append-nil p

pub behind_none : (s : ℕ) (p : List ℕ) → Lacks s p → behind s p ≡ []
unfolding behind
behind_none s p h = ap (behind s) (sym (append-nil p)) ∙ behind_append s p [] h

LacksTake : (s : ℕ) (xs : List ℕ) (i : ℕ) → ((k : ℕ) → k < i → get_or xs k 0 ≢ s) → Lacks s (take i xs)
LacksTake s xs zero others = tt
LacksTake s [] (suc i) others = tt
LacksTake s (b ∷ xs) (suc i) others = (others 0 (omega arith), LacksTake s xs i (λ k l. others (suc k) (omega arith)))

-- the parts, by the place of the first s, and where there is none
pub cut_at : (s : ℕ) (xs : List ℕ) (i : ℕ) → i < length xs → get_or xs i 0 ≡ s → ((k : ℕ) → k < i → get_or xs k 0 ≢ s) → (take i xs ≡ before s xs) × (drop (i + 1) xs ≡ behind s xs)
cut_at s xs i inside here others =
    let whole : xs ≡ take i xs ++ (s ∷ drop (i + 1) xs) = sym (take-append-drop i xs) ∙ ap (λ l. take i xs ++ l) (drop_more xs i 0 inside ∙ ap (λ b. b ∷ drop (i + 1) xs) here) in
    let lacks = LacksTake s xs i others in
    (sym (ap (before s) whole ∙ before_at s (take i xs) _ lacks), sym (ap (behind s) whole ∙ behind_at s (take i xs) _ lacks))

pub cut_none : (s : ℕ) (xs : List ℕ) → ((k : ℕ) → k < length xs → get_or xs k 0 ≢ s) → (xs ≡ before s xs) × ([] ≡ behind s xs)
cut_none s xs others =
    let lacks : Lacks s xs = rw (take_all (length xs) xs (omega arith)) at (LacksTake s xs (length xs) others) in
    (sym (before_all s xs lacks), sym (behind_none s xs lacks))

-- the cut text is its two parts, or it has no s
pub cuts : (s : ℕ) (xs : List ℕ) → (xs ≡ before s xs ++ (s ∷ behind s xs)) ⊎ ((xs ≡ before s xs) × (behind s xs ≡ []))
unfolding before behind
cuts s [] = inr (refl, refl)
cuts s (b ∷ bs) =
    elim (cases_eq b s) [
      | inl e ↦ rw (eq-eqb b s e) (inl (ap (λ x. x ∷ bs) e))
      | inr n ↦ rw (ne_eqb b s n) (elim (cuts s bs) [ inl w ↦ inl (ap (λ l. b ∷ l) w) | inr w ↦ inr (ap (λ l. b ∷ l) w.0, w.1) ])
    ]

-- where something stands behind it, s is there
pub joined : (s : ℕ) (xs p q : List ℕ) → before s xs ≡ p → behind s xs ≡ q → q ≢ [] → xs ≡ p ++ (s ∷ q)
joined s xs p q front back some =
    elim (cuts s xs) [
      | inl w ↦ w ∙ ap (λ t. t ++ (s ∷ behind s xs)) front ∙ ap (λ t. p ++ (s ∷ t)) back
      | inr w ↦ absurd (some (sym back ∙ w.1))
    ]
