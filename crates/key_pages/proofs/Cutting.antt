-- The laws of `cut`.
use Rattle.std.proofs.Common.{◌≡◌, ℕ, zero, suc, ◌+◌, ◌*◌, ◌<◌, ◌≤◌, false, ◌⊎◌, List, [], ◌∷◌, ◌++◌, length, take, drop, replicate, sym, refl, ap, ◌∙◌, inl, inr, arith, length-append, length-drop}
use lib.ListN.{length-replicate}
use Rattle.std.proofs.lemmas.List.{drop_at, take_at, append_assoc, nil_from_length}
use Rattle.std.proofs.lemmas.Bool.Decides.{nat_tests}
use Rattle.key_pages.specs.Runs.{Run, repeat, packed, front, lead, first, filled, mixed, eights, few, after_groups, cut_by, cut_in, cut}
use Rattle.key_pages.specs.Cuts.{flat, Mixed}

front_le : (k : ℕ) (ks : List ℕ) → front k ks ≤ length ks
front_le k [] = omega arith
front_le k (x ∷ xs) = grind (arith, nat_tests, front_le k xs)

pub lead_le : (ks : List ℕ) → lead ks ≤ length ks
lead_le [] = omega arith
lead_le (k ∷ ks) = omega (arith, front_le k ks)

pub eights_more : (n : ℕ) (ks : List ℕ) → lead ks < 8 → 8 ≤ length ks → eights (suc n) ks ≡ take 8 ks ∷ eights n (drop 8 ks)
unfolding eights
eights_more n ks a b = grind (arith, nat_tests)

pub eights_none : (n : ℕ) (ks : List ℕ) → mixed ks ≡ false → eights n ks ≡ []
unfolding eights
eights_none zero ks e = refl
eights_none (suc n) ks e = rw e

after_same : (F G : List ℕ → List Run) (gs : List (List ℕ)) (left : List ℕ) → F left ≡ G left → after_groups F gs left ≡ after_groups G gs left
unfolding after_groups
after_same F G gs left e = rw e

cut_by_same : (F G : List ℕ → List Run) (ks : List ℕ) → ((xs : List ℕ) → length xs < length ks → F xs ≡ G xs) → cut_by F ks ≡ cut_by G ks
unfolding cut_by
cut_by_same F G ks same = grind (arith, nat_tests, same, eights_more, after_same F G, length-drop {A = ℕ}, lead_le)

cut_in_none : (n : ℕ) → cut_in n [] ≡ []
unfolding cut_in cut_by few
cut_in_none zero = refl
cut_in_none (suc n) = refl

turns : (n m : ℕ) (ks : List ℕ) → length ks ≤ n → length ks ≤ m → cut_in n ks ≡ cut_in m ks
unfolding cut_in
turns zero m ks a b = let e : ks ≡ [] = nil_from_length ks (omega arith) in rw e (sym (cut_in_none m))
turns (suc n) zero ks a b = let e : ks ≡ [] = nil_from_length ks (omega arith) in rw e (cut_in_none (suc n))
turns (suc n) (suc m) ks a b = cut_by_same (cut_in n) (cut_in m) ks (λ xs h. turns n m xs (omega arith) (omega arith))

cut_is : (ks : List ℕ) → cut ks ≡ cut_by cut ks
unfolding cut cut_in
cut_is [] = unfold cut_by few in refl
cut_is (k ∷ ks) = cut_by_same (cut_in (length ks)) cut (k ∷ ks) (λ xs h. turns (length ks) (length xs) xs (omega arith) (omega arith))

-- keys in front

front_append : (k : ℕ) (xs ys : List ℕ) → front k xs < length xs → front k (xs ++ ys) ≡ front k xs
front_append k [] ys h = absurd (omega arith)
front_append k (x ∷ xs) ys h = grind (arith, nat_tests, front_append k xs ys)

lead_append : (xs ys : List ℕ) → lead xs < length xs → lead (xs ++ ys) ≡ lead xs
lead_append [] ys h = absurd (omega arith)
lead_append (x ∷ xs) ys h = grind (arith, front_append)

front_replicate : (n k : ℕ) (ys : List ℕ) → front k (replicate n k ++ ys) ≡ n + front k ys
front_replicate zero k ys = omega arith
front_replicate (suc n) k ys = grind (arith, nat_tests, front_replicate n k ys)

pub lead_replicate : (n k : ℕ) (ys : List ℕ) → 0 < n → lead (replicate n k ++ ys) ≡ n + front k ys
lead_replicate zero k ys h = absurd (omega arith)
lead_replicate (suc n) k ys h = omega (arith, front_replicate n k ys)

front_all : (k : ℕ) (xs : List ℕ) → front k xs ≡ length xs → xs ≡ replicate (length xs) k
front_all k [] h = refl
front_all k (x ∷ xs) h = grind (arith, nat_tests, front_all k xs)

pub lead_all : (xs : List ℕ) → lead xs ≡ length xs → xs ≡ replicate (length xs) (first xs)
lead_all [] h = refl
lead_all (x ∷ xs) h = ap (λ t. x ∷ t) (front_all x xs (omega arith))

pub first_replicate : (n k : ℕ) (ys : List ℕ) → 0 < n → first (replicate n k ++ ys) ≡ k
first_replicate zero k ys h = absurd (omega arith)
first_replicate (suc n) k ys h = refl

-- the laws

pub cut_repeat : (r k : ℕ) (rest : List ℕ) → 8 ≤ r → front k rest ≡ 0 → cut (replicate r k ++ rest) ≡ repeat r k ∷ cut rest
unfolding cut_by
cut_repeat r k rest h z = grind (arith, nat_tests, cut_is, lead_replicate, first_replicate, drop_at (replicate r k) rest r, length-replicate r k)

length-flat : (gs : List (List ℕ)) → Mixed gs → length (flat gs) ≡ 8 * length gs
length-flat [] m = refl
length-flat (g ∷ gs) m = omega (arith, length-append g (flat gs), length-flat gs m.2, m.0)

eights_flat : (n : ℕ) (gs : List (List ℕ)) (rest : List ℕ) → Mixed gs → length gs ≤ n → (length gs ≡ n) ⊎ (mixed rest ≡ false) → eights n (flat gs ++ rest) ≡ gs
eights_flat n [] rest m h (inl e) = rw (← e) (unfold eights in refl)
eights_flat n [] rest m h (inr e) = eights_none n rest e
eights_flat zero (g ∷ gs) rest m h s = absurd (omega arith)
eights_flat (suc n) (g ∷ gs) rest m h s =
    grind (arith, nat_tests, lead_append g, length-append g, append_assoc g (flat gs) rest, eights_more n, take_at g (flat gs ++ rest) 8, drop_at g (flat gs ++ rest) 8, eights_flat n gs rest m.2)

-- what the first group of a packed run shows
lead_flat : (gs : List (List ℕ)) (rest : List ℕ) → Mixed gs → 0 < length gs → (lead (flat gs ++ rest) < 8) × (8 ≤ length (flat gs ++ rest))
lead_flat [] rest m h = absurd (omega arith)
lead_flat (g ∷ gs) rest m h = grind (arith, lead_append g, length-append g, append_assoc g (flat gs) rest)

cut_groups : (gs : List (List ℕ)) (rest : List ℕ) → Mixed gs → 0 < length gs → length gs ≤ 63 → (length gs ≡ 63) ⊎ (mixed rest ≡ false)
    → cut (flat gs ++ rest) ≡ after_groups cut gs rest
unfolding cut_by
cut_groups gs rest m h n s = grind (arith, nat_tests, cut_is, lead_flat gs rest m h, eights_flat 63 gs rest m n s, drop_at (flat gs) rest (8 * length gs) (length-flat gs m))

pub cut_packed : (gs : List (List ℕ)) (rest : List ℕ) → Mixed gs → 0 < length gs → length gs ≤ 63 → (length gs ≡ 63) ⊎ (8 ≤ lead rest)
    → cut (flat gs ++ rest) ≡ packed gs ∷ cut rest
unfolding after_groups
cut_packed gs rest m h n s = grind (arith, nat_tests, cut_groups gs rest m h n, lead_le)

pub cut_few : (p : List ℕ) → length p < 8 → cut p ≡ few p
unfolding cut_by
cut_few p h = grind (arith, nat_tests, cut_is, lead_le)

pub cut_end : (gs : List (List ℕ)) (p : List ℕ) → Mixed gs → 0 < length gs → length gs < 63 → 0 < length p → length p < 8
    → cut (flat gs ++ p) ≡ packed (gs ++ filled p ∷ []) ∷ []
unfolding after_groups
cut_end gs p m h n a b = grind (arith, nat_tests, cut_groups gs p m h)

pub cut_ended : (gs : List (List ℕ)) → Mixed gs → 0 < length gs → length gs < 63 → cut (flat gs ++ []) ≡ packed gs ∷ []
unfolding after_groups
cut_ended gs m h n = cut_groups gs [] m h (omega arith) (inr refl) ∙ unfold cut cut_in in refl
