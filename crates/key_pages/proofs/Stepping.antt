-- What `next` of runs and of keys gives.
use Rattle.std.proofs.Common.{◌≡◌, ℕ, zero, suc, ◌+◌, ◌-◌, ◌*◌, ◌<◌, ◌≤◌, true, List, [], ◌∷◌, ◌++◌, length, get_or, take, drop, Some, None, Ok, Err, Option, Result, sym, refl, ap, ◌∙◌, subst, mul_assoc, arith}
use lib.ListN.{length-replicate}
use Rattle.std.specs.Iterator.{YieldsFirstBy, MakesProgress, item_count}
use Rattle.std.specs.Bool.{⊤}
use Rattle.std.specs.Result.{result_ok}
use Rattle.std.specs.List.{flat_map}
use Rattle.std.proofs.lemmas.Bool.Decides.{nat_tests}
use Rattle.std.proofs.lemmas.Nat.{mul-le}
use Rattle.std.proofs.lemmas.List.FromFn.{length-map-range_with_len, get_or-map-range_with_len}
use Rattle.std.proofs.lemmas.List.{drop-drop, drop_all, drop_more, get_or-replicate}
use Rattle.page_format.specs.Bits.{le_number, packed_value}
use Rattle.key_pages.specs.Meaning.{ReadRun, repeats, packs, run_length, run_values, unpacked}
use Rattle.key_pages.specs.Reading.{walk, walk_on}
use Rattle.key_pages.specs.Views.{view, whole, holds_whole}
use Rattle.key_pages.specs.Coming.{Behind, Advanced, walk_from, runs_to_come, held_values, values_to_come, keys_to_come, InUse, Using}
use Rattle.key_pages.specs.declared.run.Run.{Run}
use Rattle.key_pages.specs.declared.runs.Runs.{Runs}
use Rattle.key_pages.specs.declared.keys.Keys.{Keys}
use Rattle.key_pages.proofs.Walking.{walk_done, walk_run, walk_stop}
use Rattle.key_pages.proofs.Advancing.{run_whole}

-- runs

nothing : (w place : ℕ) (bs : List ℕ) → (walk w place 0 bs).runs ≡ []
nothing w place [] = ap (λ t. t.runs) (walk_done w place [])
nothing w place (b ∷ bs) = ap (λ t. t.runs) (walk_done w place (b ∷ bs))

pub none_left : (s : Runs) → s.left ≡ 0 → runs_to_come s ≡ []
none_left s e = ap (λ n. (walk s.width.bits s.place n (drop s.place s.page.now)).runs) e ∙ nothing s.width.bits s.place (drop s.place s.page.now)

-- where a run was taken, the walk goes on behind it
pub walk_behind : (s : Runs) (run : ReadRun) (size : ℕ) (t : Runs) → 0 < s.left → Behind s run size t → walk_from s ≡ walk_on run (walk_from t)
walk_behind s run size t pos b =
    let a : walk_from s ≡ walk_on run (walk s.width.bits (s.place + size) (s.left - run_length run) (drop size (drop s.place s.page.now))) =
    walk_run s.width.bits s.place s.left (drop s.place s.page.now) run size pos b.read in
    let d : drop size (drop s.place s.page.now) ≡ drop (s.place + size) s.page.now = drop-drop size s.place s.page.now in
    let p = b.page_is in
    let q = b.width_is in
    let u = b.place_is in
    let v = b.left_is in
    let e : walk_from t ≡ walk s.width.bits (s.place + size) (s.left - run_length run) (drop size (drop s.place s.page.now)) = cc in
    a ∙ ap (walk_on run) (sym e)

-- an iterator that gives the first of what is left makes progress
pub progress : {S A B : Type 0} (v : A → B) (rest : S → List B) (s : S) (r : Option A) (t : S) → YieldsFirstBy v rest s r t → MakesProgress (λ _. ⊤) (item_count rest) s r t
progress v rest s None t g = record { on = λ _. tt; keeps = tt; rests = λ _. tt }
progress v rest s (Some x) t g = record { on = λ _. (tt, tt, omega (arith, ap length g)); keeps = tt; rests = λ _. tt }

pub next_run : (s : Runs) (r : Result Run ℕ) (t : Runs) → 0 < s.left → Advanced s r t → YieldsFirstBy view runs_to_come s (result_ok r) t
next_run s (Ok run) t pos (size, b) = ap (λ x. x.runs) (walk_behind s (view run) size t pos b)
next_run s (Err p) t pos ((k, e, q), same) =
    let none : runs_to_come s ≡ [] = ap (λ x. x.runs) (walk_stop s.width.bits s.place s.left (drop s.place s.page.now) k pos e) in
    (none, subst (λ x. runs_to_come x ≡ []) (sym same) none)

pub next_whole : (s : Runs) (r : Result Run ℕ) (t : Runs) → Advanced s r t → holds_whole t.width.bits (result_ok r) ≡ true
next_whole s (Ok run) t (size, b) =
    subst (λ w. whole w.bits (view run) ≡ true) (sym b.width_is) (run_whole s.width.bits s.place s.left (drop s.place s.page.now) (view run) size b.read)
next_whole s (Err p) t h = refl

pub next_width : (s : Runs) (r : Result Run ℕ) (t : Runs) → Advanced s r t → t.width ≡ s.width
next_width s (Ok run) t (size, b) = b.width_is
next_width s (Err p) t (h, same) = ap (λ x. x.width) same

pub ruleset taking = (none_left, next_run, next_whole, next_width, progress)

-- the values of a run

pub repeat_key : (w place count : ℕ) (value : List ℕ) (i : ℕ) → i < count → le_number value ≡ get_or (run_values w (repeats place count value)) i 0
unfolding run_values
repeat_key w place count value i h = sym (get_or-replicate count i (le_number value) 0 h)

pub packed_key : (w place groups : ℕ) (bytes : List ℕ) (i : ℕ) → i < 8 * groups → packed_value w bytes i ≡ get_or (run_values w (packs place groups bytes)) i 0
unfolding run_values unpacked
packed_key w place groups bytes i h = sym (get_or-map-range_with_len (packed_value w bytes) 0 (8 * groups) i i 0 h (omega arith))

pub packed_within : (w groups : ℕ) (bytes : List ℕ) (i : ℕ) → length bytes ≡ groups * w → i < 8 * groups → (i + 1) * w ≤ 8 * length bytes
packed_within w groups bytes i e h =
    omega (arith, mul-le (i + 1) w (8 * groups) w (omega arith) (omega arith), mul_assoc 8 groups w, ap (λ t. 8 * t) e)

pub ruleset run_keys = (repeat_key, packed_key, packed_within)

pub length-values : (w : ℕ) (run : ReadRun) → length (run_values w run) ≡ run_length run
unfolding run_values unpacked
length-values w (repeats place count value) = length-replicate count (le_number value)
length-values w (packs place groups bytes) = length-map-range_with_len (packed_value w bytes) 0 (8 * groups)

whole_long : (w : ℕ) (run : ReadRun) → whole w run ≡ true → 0 < run_length run
whole_long w (repeats place count value) e = grind (arith, nat_tests)
whole_long w (packs place groups bytes) e = grind (arith, nat_tests)

-- keys

pub next_key : (left at : ℕ) (vs rest : List ℕ) → 0 < left → at < length vs
    → take left (drop at vs ++ rest) ≡ get_or vs at 0 ∷ take (left - 1) (drop (at + 1) vs ++ rest)
next_key zero at vs rest pos h = absurd (omega arith)
next_key (suc n) at vs rest pos h =
    let e : suc n - 1 ≡ n = omega arith in
    rw (drop_more vs at 0 h, e)

-- a run that has given all its values
pub spent_none : (w at : ℕ) (o : Option Run) → o ≡ None → drop at (held_values w o) ≡ []
spent_none w at o e = subst (λ x. drop at (held_values w x) ≡ []) (sym e) (drop_all at [] (omega arith))

pub spent_some : (w at : ℕ) (o : Option Run) (run : Run) → o ≡ Some run → run_length (view run) ≤ at → drop at (held_values w o) ≡ []
spent_some w at o run e h =
    subst (λ x. drop at (held_values w x) ≡ []) (sym e) (drop_all at (run_values w (view run)) (omega (arith, length-values w (view run))))

-- behind it the next run is put in use
pub turned : (s t : Keys) (o : Option Run) → drop s.at (held_values s.runs.width.bits s.run) ≡ []
    → YieldsFirstBy view runs_to_come s.runs o t.runs → holds_whole t.runs.width.bits o ≡ true → t.runs.width ≡ s.runs.width
    → t.run ≡ o → t.at ≡ 0 → t.left ≡ s.left → InUse s o t
turned s t None spent (none, none') fits width run at left =
    let f : ReadRun → List ℕ = run_values s.runs.width.bits in
    let g : ReadRun → List ℕ = run_values t.runs.width.bits in
    let a : drop t.at (held_values t.runs.width.bits t.run) ≡ [] = spent_none t.runs.width.bits t.at t.run run in (
      ap (λ x. x ++ flat_map f (runs_to_come s.runs)) spent ∙ ap (flat_map f) none,
      ap (λ x. x ++ flat_map g (runs_to_come t.runs)) a ∙ ap (flat_map g) none',
    )
turned s t (Some r) spent gives fits width run at left =
    let w = s.runs.width.bits in
    let a : values_to_come s ≡ run_values w (view r) ++ flat_map (run_values w) (runs_to_come t.runs) =
    ap (λ x. x ++ flat_map (run_values w) (runs_to_come s.runs)) spent ∙ ap (flat_map (run_values w)) gives in
    let b : values_to_come t ≡ drop t.at (held_values w t.run) ++ flat_map (run_values w) (runs_to_come t.runs) =
    ap (λ v. drop t.at (held_values v.bits t.run) ++ flat_map (run_values v.bits) (runs_to_come t.runs)) width in
    let d : drop t.at (held_values w t.run) ≡ run_values w (view r) =
    ap (λ n. drop n (held_values w t.run)) at ∙ ap (held_values w) run in
    record {
      held = run;
      more = omega (arith, at, whole_long t.runs.width.bits (view r) fits);
      values = b ∙ ap (λ x. x ++ flat_map (run_values w) (runs_to_come t.runs)) d ∙ sym a;
      left_is = left;
    }

pub ruleset turning = (spent_none, spent_some, turned)

pub key_gives : (s t : Keys) (run : Run) (key : ℕ) → 0 < s.left → Using s run t → key ≡ get_or (run_values t.runs.width.bits (view run)) t.at 0
    → keys_to_come s ≡ key ∷ take (t.left - 1) (drop (t.at + 1) (held_values t.runs.width.bits t.run) ++ flat_map (run_values t.runs.width.bits) (runs_to_come t.runs))
key_gives s t run key pos u is =
    let w = t.runs.width.bits in
    let h : held_values w t.run ≡ run_values w (view run) = ap (held_values w) u.held in
    let long : t.at < length (held_values w t.run) = omega (arith, u.more, ap length h, length-values w (view run)) in
    let a : keys_to_come s ≡ take t.left (values_to_come t) = ap (λ n. take n (values_to_come s)) (sym u.left_is) ∙ ap (take t.left) (sym u.values) in
    let b = next_key t.left t.at (held_values w t.run) (flat_map (run_values w) (runs_to_come t.runs)) (omega (arith, u.left_is)) long in
    let k : get_or (held_values w t.run) t.at 0 ≡ key = ap (λ x. get_or x t.at 0) h ∙ sym is in
    a ∙ b ∙ ap (λ x. x ∷ take (t.left - 1) (drop (t.at + 1) (held_values w t.run) ++ flat_map (run_values w) (runs_to_come t.runs))) k
