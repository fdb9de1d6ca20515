-- Opening a page.
use Rattle.std.proofs.Common.{◌≡◌, ℕ, ◌+◌, ◌-◌, ◌<◌, ◌≤◌, ltb, ◌⊎◌, List, [], ◌∷◌, length, take, drop, Some, None, Option, MatchOption, sym, refl, ap, ◌∙◌, subst, inl, inr, arith, length-drop}
use Rattle.std.specs.List.{flat_map, AllByRecursion, AllByRecursion-prop, AllWithin, HoldsAt}
use Rattle.std.proofs.Math.Bridge.{le_prop}
use Rattle.std.proofs.Math.Logic.{∥∥₁_elim}
use Rattle.std.proofs.Math.Nat.{ℕ_set}
use Rattle.std.proofs.ByRecursion.{All-get_or, All-from_get_or, All-weaker}
use Rattle.std.proofs.lemmas.List.{length-take, length-take-le, length-append, get_or-take}
use Rattle.std.proofs.lemmas.Bool.{cases_Bool, ltb-true, le-ltb}
use Rattle.page_format.specs.Faults.{Numbered}
use Rattle.page_format.specs.Limits.{key_width, page_values, most_entries}
use Rattle.page_format.specs.declared.fault.Fault.{Fault}
use Rattle.page_format.specs.declared.fault.Rejection.TheVariants.{MalformedPage, KeyOutside}
use Rattle.page_format.specs.declared.fault.Layer.TheVariants.{Reader}
use Rattle.key_pages.specs.Meaning.{ReadRun, run_length, run_values, RunsOf, no_more, one_more, Means, means, Malformed, no_width, wide, keys_of, FirstOutside}
use Rattle.key_pages.specs.Reading.{no_run, walk, page_walk, width_of}
use Rattle.key_pages.specs.Coming.{Behind, next_step, walk_from, Outside}
use Rattle.key_pages.specs.Opening.{Accepted, Refused, malformed, key_outside, Decided}
use Rattle.key_pages.specs.declared.runs.Runs.{Runs}
use Rattle.key_pages.proofs.Walking.{walk_done, walk_stop, run_found, run_long, PageTold, page_told, means_walk, malformed_walk}
use Rattle.key_pages.proofs.Stepping.{walk_behind, length-values}

-- the width

pub means_width : (page : List ℕ) (count w : ℕ) (rs : List ReadRun) → Means page count w rs → width_of page ≡ Some w
means_width page count w rs (means h t) = rw (le-ltb key_width w h)

-- a page whose first byte is a width is told by the walk behind it
pub walk_of : (page : List ℕ) (count w : ℕ) → width_of page ≡ Some w → page_walk page count ≡ walk w 1 count (drop 1 page)
unfolding page_walk
walk_of [] count w e = cc
walk_of (v ∷ bs) count w e = elim (cases_Bool (ltb key_width v)) [
  | inl f ↦ let g : None ≡ Some w = rw f at e in cc
  | inr f ↦ let g : Some v ≡ Some w = rw f at e in let h : v ≡ w = cc in rw f (ap (λ x. walk x 1 count bs) h)
]

pub no_width_told : (page : List ℕ) (count : ℕ) → width_of page ≡ None → Malformed page count 0
no_width_told [] count e = no_width
no_width_told (v ∷ bs) count e = elim (cases_Bool (ltb key_width v)) [
  | inl f ↦ wide (ltb-true key_width v f)
  | inr f ↦ let g : Some v ≡ None = rw f at e in cc
]

pub wrong_told : (page : List ℕ) (count w p : ℕ) → width_of page ≡ Some w → (walk w 1 count (drop 1 page)).fault ≡ Some p → Malformed page count p
wrong_told page count w p e f =
    subst (λ o. PageTold page count (page_walk page count).runs o) (ap (λ t. t.fault) (walk_of page count w e) ∙ f) (page_told page count)

pub means_told : (page : List ℕ) (count w : ℕ) → width_of page ≡ Some w → (walk w 1 count (drop 1 page)).fault ≡ None
    → Means page count w (walk w 1 count (drop 1 page)).runs
means_told page count w e f =
    let o = walk_of page count w e in
    let m = subst (λ o. PageTold page count (page_walk page count).runs o) (ap (λ t. t.fault) o ∙ f) (page_told page count) in
    let v : m.0 ≡ w = let x = means_width page count m.0 _ m.1 in cc in
    subst (λ t. Means page count w t.runs) o (subst (λ x. Means page count x (page_walk page count).runs) v m.1)

pub ruleset page_told_by_walk = (no_width_told, wrong_told, means_told)

-- a walk that goes on

pub fault_stops : (s : Runs) (k : ℕ) → 0 < s.left → next_step s ≡ no_run k → (walk_from s).fault ≡ Some (s.place + k)
fault_stops s k pos e = ap (λ x. x.fault) (walk_stop s.width.bits s.place s.left (drop s.place s.page.now) k pos e)

pub fault_keeps : (s : Runs) (run : ReadRun) (size : ℕ) (t : Runs) → 0 < s.left → Behind s run size t → (walk_from t).fault ≡ (walk_from s).fault
fault_keeps s run size t pos b = sym (ap (λ x. x.fault) (walk_behind s run size t pos b))

pub left_falls : (s : Runs) (run : ReadRun) (size : ℕ) (t : Runs) → 0 < s.left → Behind s run size t → t.left < s.left
left_falls s run size t pos b = omega (
  arith,
  b.left_is,
  run_long s.width.bits s.place s.left (drop s.place s.page.now) run size (run_found s.width.bits s.place s.left (drop s.place s.page.now) run size b.read),
)

fault_over : (w place : ℕ) (bs : List ℕ) → 0 < length bs → (walk w place 0 bs).fault ≡ Some place
fault_over w place [] h = absurd (omega arith)
fault_over w place (b ∷ bs) h = ap (λ x. x.fault) (walk_done w place (b ∷ bs))

fault_none : (w place : ℕ) (bs : List ℕ) → length bs ≡ 0 → (walk w place 0 bs).fault ≡ None
fault_none w place [] h = ap (λ x. x.fault) (walk_done w place [])
fault_none w place (b ∷ bs) h = absurd (omega arith)

pub ends_over : (s : Runs) → s.left ≡ 0 → s.place < length s.page.now → (walk_from s).fault ≡ Some s.place
ends_over s e h =
    ap (λ n. (walk s.width.bits s.place n (drop s.place s.page.now)).fault) e
    ∙ fault_over s.width.bits s.place (drop s.place s.page.now) (omega (arith, length-drop s.place s.page.now))

pub ends_well : (s : Runs) → s.left ≡ 0 → length s.page.now ≤ s.place → (walk_from s).fault ≡ None
ends_well s e h =
    ap (λ n. (walk s.width.bits s.place n (drop s.place s.page.now)).fault) e
    ∙ fault_none s.width.bits s.place (drop s.place s.page.now) (omega (arith, length-drop s.place s.page.now))

pub ruleset fault_of_walk = (fault_stops, fault_keeps, ends_over, ends_well)

-- the keys before the first that passes the test are below the entries
pub outside_first : (keys : List ℕ) (entries : ℕ) (r : Option ℕ)
    → MatchOption r (AllWithin (λ key. key < entries) keys 0 (length keys)) (λ i. (i < length keys) × HoldsAt (λ key. entries ≤ key) keys i × AllWithin (λ key. key < entries) keys 0 i)
    → Outside keys entries r
outside_first keys entries None below = All-from_get_or (λ key. key < entries) keys 0 (λ k lt. below k 0 (omega arith) lt)
outside_first keys entries (Some i) (inside, here, before) = record {
  inside = inside;
  outside = here 0;
  first = All-from_get_or (λ key. key < entries) (take i keys) 0 (λ k lt.
      let l : k < i = omega (arith, length-take i keys) in
      subst (λ x. x < entries) (sym (get_or-take i keys k 0 l)) (before k 0 (omega arith) l));
}

-- one meaning or one fault

pub one_meaning : (page : List ℕ) (count v w : ℕ) (rs runs : List ReadRun) → Means page count v rs → Means page count w runs → (v ≡ w) × (rs ≡ runs)
one_meaning page count v w rs runs m n =
    let x = means_width page count v rs m in
    let y = means_width page count w runs n in
    (cc, sym (ap (λ t. t.runs) (means_walk page count v rs m)) ∙ ap (λ t. t.runs) (means_walk page count w runs n))

pub never_both : (page : List ℕ) (count w p : ℕ) (runs : List ReadRun) → Means page count w runs → Malformed page count p → ⊥
never_both page count w p runs m b =
    let x = ap (λ t. t.fault) (means_walk page count w runs m) in
    let y = malformed_walk page count p b in
    let z : Some p ≡ None = sym y ∙ x in
    cc

decided_by : (page : List ℕ) (count : ℕ) (o : Option ℕ) → PageTold page count (page_walk page count).runs o
    → ((w : ℕ) × (runs : List ReadRun) × Means page count w runs) ⊎ ((p : ℕ) × Malformed page count p)
decided_by page count None (w, m) = inl (w, (page_walk page count).runs, m)
decided_by page count (Some p) m = inr (p, m)

values_enough : (w place left : ℕ) (bs : List ℕ) (rs : List ReadRun) → RunsOf w place left bs rs → left ≤ length (flat_map (run_values w) rs)
values_enough w place left bs rs no_more = omega arith
values_enough w place left bs rs (one_more {size = size} {run = run} {runs = runs} pos at more) =
    omega (
      arith,
      length-append (run_values w run) (flat_map (run_values w) runs),
      length-values w run,
      values_enough w (place + size) (left - run_length run) (drop size bs) runs more,
    )

keys_counted : (page : List ℕ) (count w : ℕ) (rs : List ReadRun) → Means page count w rs → length (keys_of w count rs) ≡ count
keys_counted page count w rs (means {bs = bs} h t) = length-take-le count (flat_map (run_values w) rs) (values_enough w 1 count bs rs t)

pub decided : (page : List ℕ) (count : ℕ) → Decided page count
decided page count = record {
  either = decided_by page count (page_walk page count).fault (page_told page count);
  never_both = λ w runs p m b. never_both page count w p runs m b;
  one_meaning = one_meaning page count;
  one_place = λ p q m n.
      let x = malformed_walk page count p m in
      let y = malformed_walk page count q n in
      cc;
  key_count = keys_counted page count;
}

-- a key outside

pub not_outside : (page keys : List ℕ) (count entries k v w : ℕ) (rs runs : List ReadRun) → Means page count v rs → keys ≡ keys_of v count rs → FirstOutside keys entries k
    → Accepted page count entries w runs → ⊥
not_outside page keys count entries k v w rs runs m is out a =
    let (v_is, rs_is) = one_meaning page count v w rs runs m a.meaning in
    let e : keys ≡ keys_of w count runs = is ∙ ap (λ x. keys_of x count rs) v_is ∙ ap (keys_of w count) rs_is in
    let s = subst (AllByRecursion (λ key. key < entries)) (sym e) a.inside in
    omega (arith, All-get_or (λ key. key < entries) keys k 0 out.inside s, out.outside)

-- the faults of `open`

module _ (page : List ℕ) (count entries : ℕ) (f : Fault) (few : count ≤ page_values) (small : entries ≤ most_entries) where
  pub refuses_malformed : (p : ℕ) → Malformed page count p → f ≡ record { number = MalformedPage; layer = Reader; place = p } → Refused page count entries f
  refuses_malformed p bad is = malformed (record { few_values = few; few_entries = small }) bad (subst (Numbered 11 5 p) (sym is) (refl, refl, refl))

  pub refuses_outside : (keys : List ℕ) (k v : ℕ) (rs : List ReadRun) → Means page count v rs → keys ≡ keys_of v count rs → FirstOutside keys entries k
      → f ≡ record { number = KeyOutside; layer = Reader; place = k } → Refused page count entries f
  refuses_outside keys k v rs m e out is =
      key_outside (record { few_values = few; few_entries = small }) m (subst (λ ks. FirstOutside ks entries k) e out) (subst (Numbered 12 5 k) (sym is) (refl, refl, refl))

-- a page that was accepted at width v

module _ (page : List ℕ) (count entries v : ℕ) (a : ∥ ((rs : List ReadRun) × Accepted page count entries v rs) ∥₁) (w : ℕ) (runs : List ReadRun) (m : Means page count w runs) where
  pub width_meant : v ≡ w
  width_meant = ∥∥₁_elim a (ℕ_set v w) (λ (rs, x). (one_meaning page count v w rs runs x.meaning m).0)

  pub runs_meant : (walk v 1 count (drop 1 page)).runs ≡ runs
  runs_meant =
      ap (λ x. (walk x 1 count (drop 1 page)).runs) width_meant
      ∙ ap (λ t. t.runs) (sym (walk_of page count w (means_width page count w runs m)) ∙ means_walk page count w runs m)

pub keys_below : (page keys : List ℕ) (count entries v : ℕ) → ∥ ((rs : List ReadRun) × Accepted page count entries v rs) ∥₁
    → ((w : ℕ) (runs : List ReadRun) → Means page count w runs → keys ≡ keys_of w count runs) → AllByRecursion (λ key. key < most_entries) keys
keys_below page keys count entries v a are =
    ∥∥₁_elim a (AllByRecursion-prop (λ key. key < most_entries) (λ key. le_prop) keys) (λ (rs, x).
    subst (AllByRecursion (λ key. key < most_entries)) (sym (are v rs x.meaning))
    (All-weaker (λ key. key < entries) (λ key. key < most_entries) (λ key lt. omega (arith, x.limits.few_entries)) (keys_of v count rs) x.inside))
