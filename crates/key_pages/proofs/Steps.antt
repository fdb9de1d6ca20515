-- The run writer's machine gives the cut of the keys.
use Rattle.std.proofs.Common.{◌≡◌, ℕ, zero, suc, ◌+◌, ◌<◌, ◌≤◌, cond, leb, List, [], ◌∷◌, ◌++◌, length, replicate, sym, refl, ap, ◌∙◌, inl, inr, arith}
use Rattle.std.proofs.lemmas.List.{append_assoc, append-nil, length_push, replicate_more, same_from_push, nil_from_length}
use Rattle.std.proofs.lemmas.Bool.{cases_eq, cases_lt}
use Rattle.std.proofs.lemmas.Bool.Decides.{nat_tests}
use Rattle.std.proofs.lemmas.Grind.{flat_map-append}
use Rattle.key_pages.specs.Runs.{Run, repeat, packed, lead, first, few, cut}
use Rattle.key_pages.specs.Machine.{Writer, start, closed, full, joins, put, puts, ends, finish, written}
use Rattle.key_pages.specs.Cuts.{flat, Mixed}
use Rattle.key_pages.proofs.Cutting.{lead_le, lead_all, lead_replicate, first_replicate, cut_repeat, cut_packed, cut_few, cut_end, cut_ended}

-- the last r keys of p equal l, and the key before them, if any, does not
pub record Trail (p : List ℕ) (l r : ℕ) : Type 0 where
  pub low : r ≤ length p
  pub alike : r ≡ length p → p ≡ replicate r l
  pub counts : (x : ℕ) → p ≡ replicate (length p) x → r ≡ length p

trail_none : (l : ℕ) → Trail [] l 0
trail_none l = record { low = omega arith; alike = λ _. refl; counts = λ _ _. refl }

push_alike : (p : List ℕ) (k x : ℕ) → p ++ k ∷ [] ≡ replicate (length (p ++ k ∷ [])) x → (p ≡ replicate (length p) x) × (k ≡ x)
push_alike p k x e = grind (arith, same_from_push p (replicate (length p) x) k x, length_push p k, replicate_more (length p) x)

trail_more : (p : List ℕ) (l r : ℕ) → Trail p l r → Trail (p ++ l ∷ []) l (r + 1)
trail_more p l r t = record {
  low = omega (arith, length_push p l, t.low);
  alike = λ e. grind (arith, t.alike, replicate_more r l, length_push p l);
  counts = λ x e. omega (arith, length_push p l, t.counts x (push_alike p l x e).0);
}

same_first : (n a b : ℕ) → 0 < n → replicate n a ≡ replicate n b → a ≡ b
same_first zero a b h e = absurd (omega arith)
same_first (suc n) a b h e = cc

trail_other : (p : List ℕ) (l r k : ℕ) → Trail p l r → (k ≡ l → ⊥) → Trail (p ++ k ∷ []) k 1
trail_other p l r k t ne = record {
  low = omega (arith, length_push p k);
  alike = λ e. let f : p ≡ [] = nil_from_length p (omega (arith, length_push p k)) in rw f refl;
  counts = λ x e. let (a, b) = push_alike p k x e in grind (arith, a, b, t.counts x, t.alike, same_first (length p) l x, length_push p k);
}

-- all of p are equal as far as `lead` tells just where r counts them all
trail_lead : (p : List ℕ) (l r : ℕ) → Trail p l r → (r ≡ length p → ⊥) → lead p < length p
trail_lead p l r t ne = grind (arith, t.counts (first p), lead_all p, lead_le p)

-- the keys that are in no closed run
abbrev pub pending : Writer → List ℕ
pending m = cond (leb 8 m.count) (replicate m.count m.last) (flat m.groups ++ m.part)

pub record Sound (m : Writer) : Type 0 where
  pub groups_mixed : Mixed m.groups
  pub groups_few : length m.groups < 63
  pub part_short : length m.part < 8
  pub repeating : 8 ≤ m.count → (m.groups ≡ []) × (m.part ≡ [])
  pub grouping : m.count < 8 → Trail m.part m.last m.count

mixed_push : (gs : List (List ℕ)) (g : List ℕ) → Mixed gs → length g ≡ 8 → lead g < 8 → Mixed (gs ++ g ∷ [])
mixed_push [] g m a b = (a, b, tt)
mixed_push (h ∷ gs) g m a b = (m.0, m.1, mixed_push gs g m.2 a b)

pub flat_push : (gs : List (List ℕ)) (g : List ℕ) → flat (gs ++ g ∷ []) ≡ flat gs ++ g
flat_push gs g = grind (arith, flat_map-append (λ (x : List ℕ). x) gs (g ∷ []), append-nil g)

-- what a step gives: m is sound, and with any keys behind it its runs are those of rs and then the cut of ks
pub record Good (m : Writer) (rs : List Run) (ks : List ℕ) : Type 0 where
  pub sound : Sound m
  pub same : (rest : List ℕ) → m.runs ++ cut (pending m ++ rest) ≡ rs ++ cut (ks ++ rest)

closed_good : (rs : List Run) (gs : List (List ℕ)) (rest : List ℕ) → Mixed gs → length gs < 63 → 8 ≤ lead rest
    → closed rs gs ++ cut rest ≡ rs ++ cut (flat gs ++ rest)
closed_good rs [] rest m n h = refl
closed_good rs (g ∷ gs) rest m n h =
    rw (append_assoc rs (packed (g ∷ gs) ∷ []) (cut rest)) (ap (λ t. rs ++ t) (sym (cut_packed (g ∷ gs) rest m (omega arith) (omega arith) (inr h))))

full_good : (rs : List Run) (gs : List (List ℕ)) (p : List ℕ) (key r : ℕ) → Mixed gs → length gs < 63 → length p ≡ 8 → Trail p key r
    → Good (full rs gs p key r) rs (flat gs ++ p)
full_good rs gs p key r m n l t = record {
  sound = grind (arith, nat_tests, mixed_push gs p m l, trail_lead p key r t, trail_none key, length_push gs p);
  same = λ rest. grind (
    arith,
    nat_tests,
    t.alike,
    append_assoc (flat gs) p rest,
    lead_replicate 8 key rest,
    closed_good rs gs (p ++ rest) m n,
    mixed_push gs p m l,
    trail_lead p key r t,
    append_assoc rs (packed (gs ++ p ∷ []) ∷ []) (cut rest),
    cut_packed (gs ++ p ∷ []) rest,
    flat_push gs p,
    append-nil (flat gs ++ p),
    length_push gs p,
  );
}

joins_good : (rs : List Run) (gs : List (List ℕ)) (p : List ℕ) (key r : ℕ) → Mixed gs → length gs < 63 → length p < 8 → Trail (p ++ key ∷ []) key r
    → Good (joins rs gs p key r) rs (flat gs ++ (p ++ key ∷ []))
joins_good rs gs p key r m n l t = grind (arith, nat_tests, full_good rs gs (p ++ key ∷ []) key r m n, length_push p key, t.low)

-- a repeat run is written, and the key behind it comes first of the next
other_good : (m : Writer) (rs : List Run) (r l key : ℕ) → Good m (rs ++ repeat r l ∷ []) (key ∷ []) → 8 ≤ r → (key ≡ l → ⊥)
    → Good m rs (replicate r l ++ key ∷ [])
other_good m rs r l key g h ne = record {
  sound = g.sound;
  same = λ rest. grind (arith, nat_tests, g.same rest, append_assoc rs (repeat r l ∷ []) (cut (key ∷ rest)), append_assoc (replicate r l) (key ∷ []) rest, cut_repeat r l (key ∷ rest));
}

put_good : (m : Writer) (key : ℕ) → Sound m → Good (put m key) m.runs (pending m ++ key ∷ [])
put_good m key s = elim (cases_eq key m.last) [
  | inl k ↦ elim (cases_lt m.count 8) [
    | inl h ↦ grind (arith, nat_tests, trail_more m.part m.last m.count (s.grouping h), joins_good m.runs m.groups m.part key (m.count + 1) s.groups_mixed s.groups_few s.part_short, append_assoc (flat m.groups) m.part (key ∷ []))
    | inr h ↦ grind (arith, nat_tests, s.repeating h, replicate_more m.count m.last)
  ]
  | inr k ↦ elim (cases_lt m.count 8) [
    | inl h ↦ grind (arith, nat_tests, trail_other m.part m.last m.count key (s.grouping h) k, joins_good m.runs m.groups m.part key 1 s.groups_mixed s.groups_few s.part_short, append_assoc (flat m.groups) m.part (key ∷ []))
    | inr h ↦ let z = s.repeating h in grind (arith, nat_tests, z, other_good (put m key) m.runs m.count m.last key, joins_good (m.runs ++ repeat m.count m.last ∷ []) [] [] key 1, trail_other [] m.last 0 key (trail_none m.last) k)
  ]
]

pub puts_good : (ks : List ℕ) (m : Writer) → Sound m → Good (puts m ks) m.runs (pending m ++ ks)
puts_good [] m s = record { sound = s; same = λ rest. grind (arith, append-nil (pending m)) }
puts_good (k ∷ ks) m s =
    let a = put_good m k s in
    let b = puts_good ks (put m k) a.sound in
    record {
      sound = b.sound;
      same = λ rest. grind (arith, a.same (ks ++ rest), b.same rest, append_assoc (pending (put m k)) ks rest, append_assoc (pending m) (k ∷ []) (ks ++ rest), append_assoc (pending m) (k ∷ ks) rest);
    }

cut_none : cut [] ≡ []
cut_none = cut_few [] (omega arith) ∙ unfold few in refl

ends_none : (rs : List Run) (p : List ℕ) (last count : ℕ) → length p < 8 → Trail p last count → count < 8 → ends rs [] p last count ≡ rs ++ few p
unfolding few
ends_none rs p last count n t h =
    grind (arith, nat_tests, append-nil rs, t.alike, trail_lead p last count t, lead_replicate (length p) last [], first_replicate (length p) last [], append-nil (replicate (length p) last))

ends_good : (rs : List Run) (gs : List (List ℕ)) (p : List ℕ) (last count : ℕ) → Sound (record { runs = rs; groups = gs; part = p; last = last; count = count })
    → ends rs gs p last count ≡ rs ++ cut (cond (leb 8 count) (replicate count last) (flat gs ++ p))
ends_good rs [] p last count s = elim (cases_lt count 8) [
  | inl h ↦ grind (arith, nat_tests, ends_none rs p last count s.part_short (s.grouping h), cut_few p s.part_short)
  | inr h ↦ grind (arith, nat_tests, cut_none, cut_repeat count last [], append-nil (replicate count last))
]
ends_good rs (g ∷ gs) p last count s = grind (arith, nat_tests, s.repeating, nil_from_length p, cut_ended (g ∷ gs) s.groups_mixed, cut_end (g ∷ gs) p s.groups_mixed)

finish_good : (m : Writer) → Sound m → finish m ≡ m.runs ++ cut (pending m)
finish_good m s = ends_good m.runs m.groups m.part m.last m.count s

pub start_sound : Sound start
start_sound = record { groups_mixed = tt; groups_few = omega arith; part_short = omega arith; repeating = λ h. absurd (omega arith); grouping = λ _. trail_none 0 }

pub machine_cuts : (ks : List ℕ) → written ks ≡ cut ks
machine_cuts ks =
    let g = puts_good ks start start_sound in
    let e : (puts start ks).runs ++ cut (pending (puts start ks) ++ []) ≡ cut (ks ++ []) = g.same [] in
    finish_good (puts start ks) g.sound ∙ ap (λ t. (puts start ks).runs ++ cut t) (sym (append-nil (pending (puts start ks)))) ∙ e ∙ ap cut (append-nil ks)
