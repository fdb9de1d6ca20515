-- Each key once, by marks of those that were seen.
use Rattle.std.proofs.Common.{◌≡◌, ℕ, zero, suc, ◌+◌, ◌<◌, ◌≤◌, Bool, true, false, cond, List, [], ◌∷◌, ◌++◌, length, get_or, take, drop, set, replicate, sym, refl, ap, ◌∙◌, subst, inl, inr, arith}
use Rattle.std.specs.List.{ContainsAt as Has, AllByRecursion, count_by}
use Rattle.std.proofs.ByRecursion.{has_append_left, has_push, has_push_cases, has_get_or}
use Rattle.std.proofs.lemmas.List.{append_assoc, append-nil, get_or-set_same, get_or-set_other, get_or-take, length-set, length-take-le, length-replicate, drop-set-lt, drop-drop}
use Rattle.std.proofs.lemmas.List.Sums.{count_by-le-length, sum_by-set}
use Rattle.std.proofs.lemmas.List.Folds.{sum_by-replicate}
use Rattle.std.proofs.lemmas.Bool.{cases_eq, both_ways}
use Rattle.page_format.specs.Limits.{most_entries}
use Rattle.key_pages.specs.Listing.{ListsOnce}

-- how many marks are set
abbrev pub marks : List Bool → ℕ
marks seen = count_by (λ b. b) seen

unmarked : (m k : ℕ) → get_or (replicate m false) k false ≡ false
unmarked zero k = refl
unmarked (suc m) zero = refl
unmarked (suc m) (suc k) = unmarked m k

-- the keys so far are listed, and marked; these are still to come
pub record Noted (all before : List ℕ) (seen : List Bool) (n : ℕ) (used to-come : List ℕ) : Type 0 where
  pub done : List ℕ
  pub whole : all ≡ done ++ to-come
  pub below : AllByRecursion (λ key. key < most_entries) to-come
  pub long : length seen ≡ most_entries
  pub count : n ≡ marks seen
  pub found : (k : ℕ) → get_or seen k false ≡ true → (i : ℕ) × (i < n) × (get_or used i 0 ≡ k)
  pub marked : (i : ℕ) → i < n → get_or seen (get_or used i 0) false ≡ true
  pub distinct : (i j : ℕ) → i < j → j < n → get_or used i 0 ≡ get_or used j 0 → ⊥
  pub of_page : (i : ℕ) → i < n → Has done (get_or used i 0)
  pub each : (k : ℕ) → Has done k → get_or seen k false ≡ true
  pub behind : drop n used ≡ drop n before

start_in : (all before : List ℕ) (m : ℕ) → m ≡ most_entries → AllByRecursion (λ key. key < most_entries) all → Noted all before (replicate m false) 0 before all
start_in all before m e below = record {
  done = [];
  whole = refl;
  below = below;
  long = length-replicate m false ∙ e;
  count = omega (arith, sum_by-replicate (λ b. cond b 1 0) m false);
  found = λ k h. absurd (both_ways (get_or (replicate m false) k false) (unmarked m k) h);
  marked = λ i h. absurd (omega arith);
  distinct = λ i j h k e. absurd (omega arith);
  of_page = λ i h. absurd (omega arith);
  each = λ k (j, h, e). absurd (omega arith);
  behind = refl;
}

pub starts : (all before to-come : List ℕ) → to-come ≡ all → AllByRecursion (λ key. key < most_entries) all → Noted all before (replicate most_entries false) 0 before to-come
starts all before to-come e below = subst (λ ks. Noted all before (replicate most_entries false) 0 before ks) (sym e) (start_in all before most_entries refl below)

pub few_marks : (all before : List ℕ) (seen : List Bool) (n : ℕ) (used to-come : List ℕ) → Noted all before seen n used to-come → n ≤ most_entries
few_marks all before seen n used to-come s = omega (arith, s.count, s.long, count_by-le-length (λ b. b) seen)

-- a key comes
module _ (all before : List ℕ) (seen : List Bool) (n : ℕ) (used to-come : List ℕ) (s : Noted all before seen n used to-come)
    (key : ℕ) (rest : List ℕ) (came : to-come ≡ key ∷ rest) where
  inside : AllByRecursion (λ key. key < most_entries) (key ∷ rest)
  inside = subst (AllByRecursion (λ key. key < most_entries)) came s.below

  pub in_range : key < most_entries
  in_range = inside.0

  whole_on : all ≡ (s.done ++ key ∷ []) ++ rest
  whole_on = s.whole ∙ ap (λ ks. s.done ++ ks) came ∙ sym (append_assoc s.done (key ∷ []) rest)

  -- one that is marked already
  pub skips : get_or seen key false ≡ true → Noted all before seen n used rest
  skips old = record {
    done = s.done ++ key ∷ [];
    whole = whole_on;
    below = inside.1;
    long = s.long;
    count = s.count;
    found = s.found;
    marked = s.marked;
    distinct = s.distinct;
    of_page = λ i h. has_append_left s.done (key ∷ []) (get_or used i 0) (s.of_page i h);
    each = λ k has. elim (has_push_cases s.done key k has) [
      | inl was ↦ s.each k was
      | inr e ↦ subst (λ x. get_or seen x false ≡ true) e old
    ];
    behind = s.behind;
  }

  module _ (new : get_or seen key false ≡ false) where
    marks_more : marks (set seen key true) ≡ marks seen + 1
    marks_more =
        let f : Bool → ℕ = λ b. cond b 1 0 in
        let here : f (get_or seen key false) ≡ 0 = ap f new in
        omega (arith, sum_by-set f seen key true false (omega (arith, in_range, s.long)), here)

    pub room : n < most_entries
    room = omega (arith, s.count, s.long, marks_more, count_by-le-length (λ b. b) (set seen key true), length-set seen key true)

    pub adds : n < length used → Noted all before (set seen key true) (n + 1) (set used n key) rest
    adds fits =
        let here : get_or (set used n key) n 0 ≡ key = get_or-set_same used n key 0 fits in
        let old : (i : ℕ) → i < n → get_or (set used n key) i 0 ≡ get_or used i 0 = λ i lt. get_or-set_other used n i key 0 (λ e. omega arith) in
        let fresh : (i : ℕ) → i < n → get_or used i 0 ≡ key → ⊥ = λ i lt e.
        both_ways (get_or seen key false) new (subst (λ x. get_or seen x false ≡ true) e (s.marked i lt)) in
        let mark : get_or (set seen key true) key false ≡ true = get_or-set_same seen key true false (omega (arith, in_range, s.long)) in
        let keeps : (k : ℕ) → get_or seen k false ≡ true → get_or (set seen key true) k false ≡ true = λ k is. elim (cases_eq k key) [
          | inl e ↦ subst (λ x. get_or (set seen key true) x false ≡ true) (sym e) mark
          | inr ne ↦ get_or-set_other seen key k true false ne ∙ is
        ] in
        record {
          done = s.done ++ key ∷ [];
          whole = whole_on;
          below = inside.1;
          long = length-set seen key true ∙ s.long;
          count = omega (arith, s.count, marks_more);
          found = λ k is. elim (cases_eq k key) [
            | inl e ↦ (n, omega arith, here ∙ sym e)
            | inr ne ↦
                let (i, lt, at) = s.found k (sym (get_or-set_other seen key k true false ne) ∙ is) in
                (i, omega arith, old i lt ∙ at)
          ];
          marked = λ i lt. elim (cases_eq i n) [
            | inl e ↦ subst (λ x. get_or (set seen key true) (get_or (set used n key) x 0) false ≡ true) (sym e)
                (subst (λ x. get_or (set seen key true) x false ≡ true) (sym here) mark)
            | inr ne ↦
                let l : i < n = omega arith in
                subst (λ x. get_or (set seen key true) x false ≡ true) (sym (old i l)) (keeps (get_or used i 0) (s.marked i l))
          ];
          distinct = λ i j lt top e. elim (cases_eq j n) [
            | inl last ↦ fresh i (omega arith) (sym (old i (omega arith)) ∙ e ∙ ap (λ x. get_or (set used n key) x 0) last ∙ here)
            | inr ne ↦ s.distinct i j lt (omega arith) (sym (old i (omega arith)) ∙ e ∙ old j (omega arith))
          ];
          of_page = λ i lt. elim (cases_eq i n) [
            | inl e ↦ subst (λ x. Has (s.done ++ key ∷ []) x) (sym (ap (λ x. get_or (set used n key) x 0) e ∙ here)) (has_push s.done key)
            | inr ne ↦
                let l : i < n = omega arith in
                subst (λ x. Has (s.done ++ key ∷ []) x) (sym (old i l)) (has_append_left s.done (key ∷ []) (get_or used i 0) (s.of_page i l))
          ];
          each = λ k has. elim (has_push_cases s.done key k has) [
            | inl was ↦ keeps k (s.each k was)
            | inr e ↦ subst (λ x. get_or (set seen key true) x false ≡ true) e mark
          ];
          behind = drop-set-lt (n + 1) used n key (omega arith) ∙ sym (drop-drop 1 n used) ∙ ap (drop 1) s.behind ∙ drop-drop 1 n before;
        }

-- at the end

pub ends : (all before : List ℕ) (seen : List Bool) (n : ℕ) (used to-come : List ℕ) → Noted all before seen n used to-come → to-come ≡ [] → most_entries ≤ length used → ListsOnce all before n used
ends all before seen n used to-come s none fits =
    let e : all ≡ s.done = s.whole ∙ ap (λ ks. s.done ++ ks) none ∙ append-nil s.done in
    let within : n ≤ length used = omega (arith, few_marks all before seen n used to-come s) in
    record {
      within = within;
      distinct = s.distinct;
      used = λ i h. subst (λ xs. Has xs (get_or used i 0)) (sym e) (s.of_page i h);
      each = λ k has.
          let (i, lt, at) = s.found k (s.each k (subst (λ xs. Has xs k) e has)) in
          let l : i < length (take n used) = omega (arith, length-take-le n used within) in
          subst (λ x. Has (take n used) x) (get_or-take n used i 0 lt ∙ at) (has_get_or (take n used) i 0 l);
      behind = s.behind;
    }
