-- What a walk along the slots of a sound interner shows, and what a new entry keeps.
use Rattle.std.proofs.Common.{◌≡◌, ℕ, suc, ◌+◌, ◌-◌, ◌%◌, ◌<◌, ◌≤◌, List, [], ◌∷◌, ◌++◌, length, get_or, set, replicate, count_by, cond, is_some, Some, None, Option, IfSome, IsSome, IsSomeAnd, sym, refl, ap, ◌∙◌, subst, inl, inr, arith}
use Rattle.std.proofs.lemmas.List.{length-set, length_push, length-replicate, get_or-set_same, get_or-set_other, get_or_append_left, get_or_push}
use Rattle.std.proofs.lemmas.List.Elements.{All-set, All-weaker, All-replicate}
use Rattle.std.proofs.lemmas.List.Folds.{sum_by-replicate}
use Rattle.std.proofs.lemmas.List.Sums.{sum_by-cons, sum_by-set}
use Rattle.std.proofs.lemmas.Option.{IfSome_then}
use Rattle.std.proofs.lemmas.Bool.{cases_order, cases_lt}
use Rattle.page_format.specs.Faults.{answered}
use Rattle.page_format.specs.Limits.{table_slots, most_entries}
use Rattle.page_format.specs.Plain.{Bytes}
use Rattle.interner.specs.Entries.{Store, Holds, pushed}
use Rattle.interner.specs.Tables.{place_of, slot_of, Reached, Sound, Passed, Stops}
use Rattle.interner.proofs.Finding.{Absent, distinct_push}
use Rattle.interner.proofs.Steps.{pushed_answered}

some_and : {A : Type 0} (o : Option A) (P : A → Type 0) → IsSomeAnd o P → IsSome o
some_and None P h = absurd h
some_and (Some x) P h = refl

reach : (hash : Bytes → ℕ) (es : List Bytes) (slots : List (Option ℕ)) (v : Bytes) (k : ℕ) → Sound hash es slots → Holds es k v → Reached slots (hash v) k
reach hash es slots v k s (lt, e) = subst (λ x. Reached slots (hash x) k) e (s.reached k lt)

-- where the walk for v ends at an empty slot, v is no entry
pub absent_free : {hash : Bytes → ℕ} {es : List Bytes} {slots : List (Option ℕ)} {v : Bytes} {i : ℕ} → Sound hash es slots → Stops es slots (hash v) v i → Absent es v
absent_free {hash} {es} {slots} {v} {i} s w k held =
    let r = reach hash es slots v k s held in
    let none : slot_of slots (hash v) w.steps ≡ None = rw w.there at w.empty in
    elim (cases_order r.steps w.steps) [
      | inl e ↦ let n : slot_of slots (hash v) w.steps ≡ Some k = rw e at r.names in cc
      | inr (inl lt) ↦ subst (λ o. IsSomeAnd o (λ k. Holds es k v → ⊥)) r.names (w.passed r.steps lt) held
      | inr (inr gt) ↦ let some = r.past w.steps gt in cc
    ]

-- a write to an empty slot leaves each slot that is not empty
kept : (slots : List (Option ℕ)) (i j : ℕ) (x : Option ℕ) → get_or slots i None ≡ None → IsSome (get_or slots j None) → get_or (set slots i x) j None ≡ get_or slots j None
kept slots i j x none some = get_or-set_other slots i j x None (λ e. let z = ap (λ m. get_or slots m None) e in cc)

still : {slots : List (Option ℕ)} {h k : ℕ} (i : ℕ) (x : Option ℕ) → get_or slots i None ≡ None → Reached slots h k → Reached (set slots i x) h k
still {slots} {h} {k} i x none r =
    record {
      steps = r.steps;
      within = r.within;
      names = kept slots i (place_of h r.steps) x none (rw r.names refl) ∙ r.names;
      past = λ m lt. rw (kept slots i (place_of h m) x none (r.past m lt)) (r.past m lt);
    }

abbrev names_below : ℕ → Option ℕ → Type 0
names_below n slot = IfSome slot (λ k. k < n)

sound_push : {hash : Bytes → ℕ} {es : List Bytes} {slots : List (Option ℕ)} {v : Bytes} {i : ℕ} → Sound hash es slots → Stops es slots (hash v) v i → Sound hash (es ++ v ∷ []) (set slots i (Some (length es)))
sound_push {hash} {es} {slots} {v} {i} s w =
    let new : Option ℕ = Some (length es) in
    let more = length_push es v in
    let within : i < length slots = omega (arith, w.there, s.long) in
    let here = get_or-set_same slots i new None within in
    record {
      long = length-set slots i new ∙ s.long;
      named = All-set (names_below (length (es ++ v ∷ []))) slots i new (omega arith) (All-weaker (names_below (length es)) (names_below (length (es ++ v ∷ []))) (λ o below. IfSome_then {X = ℕ} o below (λ k lt. omega arith)) slots s.named);
      reached = λ k lt. elim (cases_lt k (length es)) [
        | inl l ↦ rw (get_or_append_left es (v ∷ []) [] k l) (still i new w.empty (s.reached k l))
        | inr g ↦
            let e : length es ≡ k = omega arith in
            rw (get_or_push es v [] k e)
            (record {
              steps = w.steps;
              within = w.within;
              names = ap (λ m. get_or (set slots i new) m None) (sym w.there) ∙ here ∙ ap Some e;
              past = λ m lt. let some = some_and _ _ (w.passed m lt) in rw (kept slots i (place_of (hash v) m) new w.empty some) some;
            })
      ];
      few =
          let change = sum_by-set (λ x. cond {A = ℕ} (is_some x) 1 0) slots i new None within in
          omega (arith, rw w.empty at change, s.few, more);
      distinct = distinct_push es v (absent_free s w) s.distinct;
    }

-- every slot is on every walk
covers : (h i : ℕ) → i < table_slots → (m : ℕ) × (m < table_slots) × (place_of h m ≡ i)
covers h i lt = ((i + table_slots - h % table_slots) % table_slots, omega arith, omega arith)

count_all : (xs : List (Option ℕ)) → ((i : ℕ) → i < length xs → IsSome (get_or xs i None)) → count_by is_some xs ≡ length xs
count_all [] all = refl
count_all (None ∷ xs) all = let some = all 0 (omega arith) in cc
count_all (Some x ∷ xs) all = omega (arith, sum_by-cons (λ x. cond {A = ℕ} (is_some x) 1 0) (Some x) xs, count_all xs (λ i lt. all (suc i) (omega arith)))

-- a walk comes to an empty slot: there are fewer entries than slots
pub never_full : {hash : Bytes → ℕ} {es : List Bytes} {slots : List (Option ℕ)} (v : Bytes) → length es ≤ most_entries → Sound hash es slots → Passed es slots (hash v) v table_slots → ⊥
never_full {hash} {es} {slots} v little s p =
    let some : (i : ℕ) → i < length slots → IsSome (get_or slots i None) = λ i lt. let (m, lm, e) = covers (hash v) i (omega (arith, s.long)) in subst (λ j. IsSome (get_or slots j None)) e (some_and _ _ (p m lm)) in
    let c = count_all slots some in
    omega (arith, c, s.few, s.long)

-- no entries, and every slot empty
pub sound_none : (hash : Bytes → ℕ) (es : List Bytes) (n : ℕ) → n ≡ table_slots → es ≡ [] → Sound hash es (replicate n None)
sound_none hash es n e none =
    let no : length es ≡ 0 = ap length none in
    record {
      long = length-replicate {A = Option ℕ} n None ∙ e;
      named = All-replicate (names_below (length es)) n None tt;
      reached = λ k lt. absurd (omega arith);
      few = omega (arith, sum_by-replicate {X = Option ℕ} (λ x. cond {A = ℕ} (is_some x) 1 0) n None);
      distinct = λ i k lt l q. omega arith;
    }

-- the entries and the slots after a push that found a slot
pub sound_free : {hash : Bytes → ℕ} {es : List Bytes} {slots : List (Option ℕ)} {v : Bytes} {i : ℕ} {slot : Option ℕ} (st : Store) (place k : ℕ) (es' : List Bytes) → Sound hash es slots → Stops es slots (hash v) v i → answered k ≡ pushed st es v place → es' ≡ es ++ v ∷ [] → slot ≡ Some k → Sound hash es' (set slots i slot)
sound_free {hash} {es} {slots} {v} {i} st place k es' s w answer grown names =
    let q : k ≡ length es = pushed_answered st es v place k (sym answer) in
    rw (names, grown, q) (sound_push s w)
