-- The rules give each key list its cut, and nothing else.
use Rattle.std.proofs.Common.{◌≡◌, ℕ, zero, suc, ◌*◌, ◌<◌, ◌≤◌, false, ◌⊎◌, List, [], ◌∷◌, ◌++◌, length, take, drop, replicate, sym, refl, ap, ◌∙◌, subst, inl, inr, arith, length-drop}
use lib.ListN.{length-replicate}
use Rattle.std.proofs.lemmas.List.{append_assoc, append-nil, nil_from_length, take-append-drop, drop-drop, length-take-le}
use Rattle.std.proofs.lemmas.Bool.{cases_Bool, cases_eq, cases_lt}
use Rattle.std.proofs.lemmas.Bool.Decides.{nat_tests}
use Rattle.key_pages.specs.Runs.{Run, repeat, packed, front, lead, first, filled, mixed, eights, few, cut}
use Rattle.key_pages.specs.Cuts.{Cuts, none, repeats, packs, fills, stops, alike, unlike, flat, Mixed}
use Rattle.key_pages.proofs.Cutting.{lead_le, lead_all, lead_replicate, first_replicate, eights_more, eights_none, cut_repeat, cut_packed, cut_few, cut_end, cut_ended}

few_alike : (n k : ℕ) → 0 < n → few (replicate n k) ≡ repeat n k ∷ []
unfolding few
few_alike n k h = grind (arith, nat_tests, append-nil (replicate n k), length-replicate n k, lead_replicate n k [], first_replicate n k [])

few_unlike : (ks : List ℕ) → lead ks < length ks → few ks ≡ packed (filled ks ∷ []) ∷ []
unfolding few
few_unlike ks h = grind (arith, nat_tests)

pub only_cut : (ks : List ℕ) (rs : List Run) → Cuts ks rs → rs ≡ cut ks
only_cut ks rs none = sym (cut_few [] (omega arith) ∙ unfold few in refl)
only_cut ks rs (repeats {rest = rest} {rs = qs} r k e h z c) = ap (λ t. repeat r k ∷ t) (only_cut rest qs c) ∙ sym (ap cut e ∙ cut_repeat r k rest h z)
only_cut ks rs (packs {rest = rest} {rs = qs} gs e m a b s c) = ap (λ t. packed gs ∷ t) (only_cut rest qs c) ∙ sym (ap cut e ∙ cut_packed gs rest m a b s)
only_cut ks rs (fills gs p e m a b x y) = sym (ap cut e ∙ cut_end gs p m a b x y)
only_cut ks rs (stops gs e m a b) = sym (ap cut e ∙ cut_ended gs m a b)
only_cut ks rs (alike n k e a b) = sym (ap cut e ∙ cut_few (replicate n k) (omega (arith, length-replicate n k)) ∙ few_alike n k a)
only_cut ks rs (unlike a b) = sym (cut_few ks a ∙ few_unlike ks b)

front_split : (k : ℕ) (xs : List ℕ) → (xs ≡ replicate (front k xs) k ++ drop (front k xs) xs) × (front k (drop (front k xs) xs) ≡ 0)
front_split k [] = (refl, refl)
front_split k (x ∷ xs) = grind (arith, nat_tests, front_split k xs)

lead_split : (xs : List ℕ) → (xs ≡ replicate (lead xs) (first xs) ++ drop (lead xs) xs) × (front (first xs) (drop (lead xs) xs) ≡ 0)
lead_split [] = (refl, refl)
lead_split (x ∷ xs) = grind (arith, front_split x xs)

lead_take : (ks : List ℕ) → lead ks < 8 → 8 ≤ length ks → lead (take 8 ks) < 8
lead_take ks a b = grind (arith, length-take-le 8 ks, lead_all (take 8 ks), take-append-drop 8 ks, lead_replicate 8 (first (take 8 ks)) (drop 8 ks), lead_le (take 8 ks))

record Splits (n : ℕ) (ks : List ℕ) (gs : List (List ℕ)) : Type 0 where
  whole : ks ≡ flat gs ++ drop (8 * length gs) ks
  all_mixed : Mixed gs
  most : length gs ≤ n
  last : (length gs ≡ n) ⊎ (mixed (drop (8 * length gs) ks) ≡ false)

eights_split : (n : ℕ) (ks : List ℕ) → Splits n ks (eights n ks)
eights_split zero ks = unfold eights in record { whole = refl; all_mixed = tt; most = omega arith; last = inl refl }
eights_split (suc n) ks = elim (cases_Bool (mixed ks)) [
  | inl e ↦
      let s = eights_split n (drop 8 ks) in
      let gs = eights n (drop 8 ks) in
      let low : lead ks < 8 = grind (arith, nat_tests) in
      let long : 8 ≤ length ks = grind (arith, nat_tests) in
      let d : drop (8 * length gs) (drop 8 ks) ≡ drop (8 * suc (length gs)) ks = grind (arith, drop-drop (8 * length gs) 8 ks) in
      let g : Splits (suc n) ks (take 8 ks ∷ gs) = record {
        whole = grind (arith, s.whole, d, take-append-drop 8 ks, append_assoc (take 8 ks) (flat gs) (drop (8 * suc (length gs)) ks));
        all_mixed = (length-take-le 8 ks long, lead_take ks low long, s.all_mixed);
        most = omega (arith, s.most);
        last = grind (arith, s.last, d);
      } in
      subst (λ t. Splits (suc n) ks t) (sym (eights_more n ks low long)) g
  | inr e ↦ subst (λ t. Splits (suc n) ks t) (sym (eights_none (suc n) ks e)) (record { whole = refl; all_mixed = tt; most = omega arith; last = inr e })
]

Cut : List ℕ → Type 0
Cut ks = (rs : List Run) × Cuts ks rs

after : (ks : List ℕ) (gs : List (List ℕ)) (rest : List ℕ) → ks ≡ flat gs ++ rest → Mixed gs → 0 < length gs → length gs ≤ 63 → (length gs ≡ 63) ⊎ (mixed rest ≡ false) → Cut rest → Cut ks
unfolding Cut
after ks gs rest e m a b s (rs, c) = elim (cases_eq (length gs) 63) [
  | inl f ↦ (packed gs ∷ rs, packs gs e m a b (inl f) c)
  | inr f ↦ elim (cases_lt (length rest) 8) [
    | inl h ↦ elim (cases_eq (length rest) 0) [
      | inl z ↦ (packed gs ∷ [], stops gs (e ∙ ap (λ t. flat gs ++ t) (nil_from_length rest z)) m a (omega arith))
      | inr z ↦ (packed (gs ++ filled rest ∷ []) ∷ [], fills gs rest e m a (omega arith) (omega arith) h)
    ]
    | inr h ↦ (packed gs ∷ rs, packs gs e m a b (inr (grind (arith, nat_tests))) c)
  ]
]

some_cut : (n : ℕ) (ks : List ℕ) → length ks ≤ n → Cut ks
unfolding Cut
some_cut zero ks h = ([], subst (λ t. Cuts t []) (sym (nil_from_length ks (omega arith))) none)
some_cut (suc n) ks h = elim (cases_lt (lead ks) 8) [
  | inr l ↦
      let s = lead_split ks in
      let c = some_cut n (drop (lead ks) ks) (omega (arith, length-drop (lead ks) ks)) in
      (repeat (lead ks) (first ks) ∷ c.0, repeats (lead ks) (first ks) s.0 l s.1 c.1)
  | inl l ↦ elim (cases_lt (length ks) 8) [
    | inl f ↦ elim (cases_eq (length ks) 0) [
      | inl z ↦ ([], subst (λ t. Cuts t []) (sym (nil_from_length ks z)) none)
      | inr z ↦ elim (cases_eq (lead ks) (length ks)) [
        | inl y ↦ (repeat (length ks) (first ks) ∷ [], alike (length ks) (first ks) (lead_all ks y) (omega arith) f)
        | inr y ↦ (packed (filled ks ∷ []) ∷ [], unlike f (omega (arith, lead_le ks)))
      ]
    ]
    | inr f ↦
        let s = eights_split 63 ks in
        let rest = drop (8 * length (eights 63 ks)) ks in
        let pos : 0 < length (eights 63 ks) = omega (arith, ap length (eights_more 62 ks l f)) in
        after ks (eights 63 ks) rest s.whole s.all_mixed pos s.most s.last (some_cut n rest (omega (arith, length-drop (8 * length (eights 63 ks)) ks)))
  ]
]

pub rules_cut : (ks : List ℕ) → Cuts ks (cut ks)
unfolding Cut
rules_cut ks = let (rs, c) = some_cut (length ks) ks (omega arith) in subst (λ t. Cuts ks t) (only_cut ks rs c) c
