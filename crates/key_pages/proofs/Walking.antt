-- The walk over a page agrees with what the page means, both ways.
use Rattle.std.proofs.Common.{◌≡◌, ℕ, zero, suc, ◌+◌, ◌-◌, ◌*◌, ◌/◌, ◌%◌, ◌<◌, ◌≤◌, eqb, ltb, List, [], ◌∷◌, length, drop, Some, None, Ok, Err, Option, Result, sym, refl, ap, ◌∙◌, subst, inl, inr, arith}
use Rattle.std.proofs.lemmas.Bool.Decides.{nat_tests}
use Rattle.std.proofs.lemmas.Bool.{cases_Bool, ltb-true, ltb-false, eqb-true, eqb-false, lt-ltb, le-ltb, ne_eqb}
use Rattle.page_format.specs.Bits.{read_varint, bytes_for}
use Rattle.page_format.specs.Limits.{key_width}
use Rattle.page_format.specs.declared.field.Field.{Field}
use Rattle.page_format.specs.declared.field.BadField.{BadField}
use Rattle.key_pages.specs.Meaning.{ReadRun, run_length, Header, RunAt, a_repeat, a_packed, RunsOf, no_more, one_more, WrongRun, no_header, empty_run, too_many, cut_value, too_long, cut_groups, WrongAt, left_over, here, later, Means, means, Malformed, no_width, wide, wrong, most_values}
use Rattle.key_pages.specs.Reading.{Step, a_run, no_run, repeat_step, packed_step, header_step, field_step, read_run, Walk, walk_end, walk_on, walk_step, walk_by, walk_in, walk, page_walk}

-- what one step says of the bytes
abbrev pub Says : ℕ → ℕ → ℕ → List ℕ → Step → Type 0
Says w place left bs (a_run run size) = RunAt w place left bs run size
Says w place left bs (no_run k) = WrongRun w left bs k

repeat_says : (w place left : ℕ) (bs : List ℕ) (count n : ℕ) → Header bs (2 * count) n → 0 < count → Says w place left bs (repeat_step w place left bs count n)
unfolding repeat_step
repeat_says w place left bs count n h pos = elim (cases_Bool (ltb left count)) [
  | inl e ↦ rw e (too_many count n h (ltb-true left count e))
  | inr e ↦ rw e (elim (cases_Bool (ltb (length bs) (n + bytes_for w))) [
    | inl f ↦ rw f (cut_value count n h pos (ltb-false left count e) (ltb-true (length bs) (n + bytes_for w) f))
    | inr f ↦ rw f (a_repeat count n h pos (ltb-false left count e) (ltb-false (length bs) (n + bytes_for w) f))
  ])
]

packed_says : (w place left : ℕ) (bs : List ℕ) (groups n : ℕ) → Header bs (2 * groups + 1) n → 0 < groups → Says w place left bs (packed_step w place bs groups n)
unfolding packed_step
packed_says w place left bs groups n h pos = elim (cases_Bool (ltb most_values (8 * groups))) [
  | inl e ↦ rw e (too_long groups n h (ltb-true most_values (8 * groups) e))
  | inr e ↦ rw e (elim (cases_Bool (ltb (length bs) (n + groups * w))) [
    | inl f ↦ rw f (cut_groups groups n h pos (ltb-false most_values (8 * groups) e) (ltb-true (length bs) (n + groups * w) f))
    | inr f ↦ rw f (a_packed groups n h pos (ltb-false most_values (8 * groups) e) (ltb-false (length bs) (n + groups * w) f))
  ])
]

header_says : (w place left : ℕ) (bs : List ℕ) (h n : ℕ) → Header bs h n → Says w place left bs (header_step w place left bs h n)
unfolding header_step
header_says w place left bs h n e = elim (cases_Bool (ltb h 2)) [
  | inl f ↦ rw f (empty_run h n e (ltb-true h 2 f))
  | inr f ↦ rw f (elim (cases_Bool (eqb (h % 2) 0)) [
    | inl g ↦ rw g (repeat_says w place left bs (h / 2) n
        (let x : h ≡ 2 * (h / 2) = omega (arith, eqb-true (h % 2) 0 g) in subst (λ t. Header bs t n) x e)
        (omega (arith, ltb-false h 2 f)))
    | inr g ↦ rw g (packed_says w place left bs (h / 2) n
        (let x : h ≡ 2 * (h / 2) + 1 = omega (arith, eqb-false (h % 2) 0 g) in subst (λ t. Header bs t n) x e)
        (omega (arith, ltb-false h 2 f)))
  ])
]

field_says : (w place left : ℕ) (bs : List ℕ) (r : Result Field BadField) → read_varint 32 bs ≡ r → Says w place left bs (field_step w place left bs r)
field_says w place left bs (Ok f) e = header_says w place left bs f.value f.len e
field_says w place left bs (Err b) e = no_header b e

pub run_says : (w place left : ℕ) (bs : List ℕ) → Says w place left bs (read_run w place left bs)
unfolding read_run
run_says w place left bs = field_says w place left bs (read_varint 32 bs) refl

pub run_found : (w place left : ℕ) (bs : List ℕ) (run : ReadRun) (size : ℕ) → read_run w place left bs ≡ a_run run size → RunAt w place left bs run size
run_found w place left bs run size e = subst (λ s. Says w place left bs s) e (run_says w place left bs)

pub run_missed : (w place left : ℕ) (bs : List ℕ) (k : ℕ) → read_run w place left bs ≡ no_run k → WrongRun w left bs k
run_missed w place left bs k e = subst (λ s. Says w place left bs s) e (run_says w place left bs)

pub run_read : (w place left : ℕ) (bs : List ℕ) (run : ReadRun) (size : ℕ) → RunAt w place left bs run size → read_run w place left bs ≡ a_run run size
unfolding read_run header_step repeat_step packed_step
run_read w place left bs run size (a_repeat count n h pos few fits) = grind (arith, nat_tests)
run_read w place left bs run size (a_packed groups n h pos few fits) = grind (arith, nat_tests)

pub run_wrong : (w place left : ℕ) (bs : List ℕ) (k : ℕ) → WrongRun w left bs k → read_run w place left bs ≡ no_run k
unfolding read_run header_step repeat_step packed_step
run_wrong w place left bs k (no_header b e) = grind (arith, nat_tests)
run_wrong w place left bs k (empty_run h n e lt) = grind (arith, nat_tests)
run_wrong w place left bs k (too_many count n e lt) = grind (arith, nat_tests)
run_wrong w place left bs k (cut_value count n e pos few lt) = grind (arith, nat_tests)
run_wrong w place left bs k (too_long groups n e lt) = grind (arith, nat_tests)
run_wrong w place left bs k (cut_groups groups n e pos few lt) = grind (arith, nat_tests)

-- a run has a value, and lies within the bytes

pub run_long : (w place left : ℕ) (bs : List ℕ) (run : ReadRun) (size : ℕ) → RunAt w place left bs run size → 0 < run_length run
run_long w place left bs run size (a_repeat count n h pos few fits) = pos
run_long w place left bs run size (a_packed groups n h pos few fits) = omega arith

pub run_within : (w place left : ℕ) (bs : List ℕ) (run : ReadRun) (size : ℕ) → RunAt w place left bs run size → size ≤ length bs
run_within w place left bs run size (a_repeat count n h pos few fits) = fits
run_within w place left bs run size (a_packed groups n h pos few fits) = fits

-- the walk, one step unfolded

step_same : (F G : ℕ → ℕ → List ℕ → Walk) (w place left : ℕ) (bs : List ℕ) (s : Step) → Says w place left bs s → 0 < left
    → ((p l : ℕ) (xs : List ℕ) → l < left → F p l xs ≡ G p l xs) → walk_step F place left bs s ≡ walk_step G place left bs s
step_same F G w place left bs (a_run run size) says pos same =
    ap (walk_on run) (same (place + size) (left - run_length run) (drop size bs) (omega (arith, run_long w place left bs run size says)))
step_same F G w place left bs (no_run k) says pos same = refl

by_same : (F G : ℕ → ℕ → List ℕ → Walk) (w place left : ℕ) (bs : List ℕ)
    → ((p l : ℕ) (xs : List ℕ) → l < left → F p l xs ≡ G p l xs) → walk_by w F place left bs ≡ walk_by w G place left bs
unfolding walk_by
by_same F G w place left bs same = elim (cases_Bool (eqb left 0)) [
  | inl e ↦ rw e
  | inr e ↦ rw e (step_same F G w place left bs (read_run w place left bs) (run_says w place left bs) (let ne = eqb-false left 0 e in omega (arith, ne)) same)
]

in_none : (w n place : ℕ) (bs : List ℕ) → walk_in w n place 0 bs ≡ walk_end place bs
unfolding walk_in walk_by
in_none w zero place bs = refl
in_none w (suc n) place bs = refl

turns : (w n m place left : ℕ) (bs : List ℕ) → left ≤ n → left ≤ m → walk_in w n place left bs ≡ walk_in w m place left bs
unfolding walk_in
turns w zero m place left bs a b =
    let z : left ≡ 0 = omega arith in
    subst (λ l. walk_end place bs ≡ walk_in w m place l bs) (sym z) (sym (in_none w m place bs))
turns w (suc n) zero place left bs a b =
    let z : left ≡ 0 = omega arith in
    subst (λ l. walk_in w (suc n) place l bs ≡ walk_end place bs) (sym z) (in_none w (suc n) place bs)
turns w (suc n) (suc m) place left bs a b =
    by_same (walk_in w n) (walk_in w m) w place left bs (λ p l xs h. turns w n m p l xs (omega arith) (omega arith))

pub walk_is : (w place left : ℕ) (bs : List ℕ) → walk w place left bs ≡ walk_by w (walk w) place left bs
unfolding walk walk_in
walk_is w place zero bs = unfold walk_by in refl
walk_is w place (suc n) bs =
    by_same (walk_in w n) (walk w) w place (suc n) bs (λ p l xs h. turns w n l p l xs (omega arith) (omega arith))

pub walk_done : (w place : ℕ) (bs : List ℕ) → walk w place 0 bs ≡ walk_end place bs
unfolding walk walk_in
walk_done w place bs = refl

pub walk_run : (w place left : ℕ) (bs : List ℕ) (run : ReadRun) (size : ℕ) → 0 < left → read_run w place left bs ≡ a_run run size
    → walk w place left bs ≡ walk_on run (walk w (place + size) (left - run_length run) (drop size bs))
unfolding walk_by
walk_run w place left bs run size pos e = walk_is w place left bs ∙ rw (ne_eqb left 0 (omega arith), e)

pub walk_stop : (w place left : ℕ) (bs : List ℕ) (k : ℕ) → 0 < left → read_run w place left bs ≡ no_run k
    → walk w place left bs ≡ record { runs = []; fault = Some (place + k) }
unfolding walk_by
walk_stop w place left bs k pos e = walk_is w place left bs ∙ rw (ne_eqb left 0 (omega arith), e)

-- the walk and the rules

pub runs_walk : (w place left : ℕ) (bs : List ℕ) (rs : List ReadRun) → RunsOf w place left bs rs
    → walk w place left bs ≡ record { runs = rs; fault = None }
runs_walk w place left bs rs (no_more) = walk_done w place []
runs_walk w place left bs rs (one_more {size = size} {run = run} {runs = runs} pos at more) =
    walk_run w place left bs run size pos (run_read w place left bs run size at)
    ∙ ap (walk_on run) (runs_walk w (place + size) (left - run_length run) (drop size bs) runs more)

pub wrong_walk : (w place left : ℕ) (bs : List ℕ) (p : ℕ) → WrongAt w place left bs p → (walk w place left bs).fault ≡ Some p
wrong_walk w place left bs p (left_over {b = b} {bs = cs}) = ap (λ t. t.fault) (walk_done w place (b ∷ cs))
wrong_walk w place left bs p (here {k = k} pos bad) =
    ap (λ t. t.fault) (walk_stop w place left bs k pos (run_wrong w place left bs k bad))
wrong_walk w place left bs p (later {size = size} {run = run} pos at more) =
    ap (λ t. t.fault) (walk_run w place left bs run size pos (run_read w place left bs run size at))
    ∙ wrong_walk w (place + size) (left - run_length run) (drop size bs) p more

-- what a walk says of the bytes
abbrev pub Told : ℕ → ℕ → ℕ → List ℕ → List ReadRun → Option ℕ → Type 0
Told w place left bs rs None = RunsOf w place left bs rs
Told w place left bs rs (Some p) = WrongAt w place left bs p

end_told : (w place : ℕ) (bs : List ℕ) → Told w place 0 bs (walk_end place bs).runs (walk_end place bs).fault
end_told w place [] = no_more
end_told w place (b ∷ bs) = left_over

more_told : (w place left : ℕ) (bs : List ℕ) (run : ReadRun) (size : ℕ) (rs : List ReadRun) (o : Option ℕ) → 0 < left → RunAt w place left bs run size
    → Told w (place + size) (left - run_length run) (drop size bs) rs o → Told w place left bs (run ∷ rs) o
more_told w place left bs run size rs None pos at t = one_more pos at t
more_told w place left bs run size rs (Some p) pos at t = later pos at t

step_told : (F : ℕ → ℕ → List ℕ → Walk) (w place left : ℕ) (bs : List ℕ) (s : Step) → Says w place left bs s → 0 < left
    → ((p l : ℕ) (xs : List ℕ) → l < left → Told w p l xs (F p l xs).runs (F p l xs).fault)
    → Told w place left bs (walk_step F place left bs s).runs (walk_step F place left bs s).fault
step_told F w place left bs (a_run run size) says pos rec =
    more_told w place left bs run size _ _ pos says
    (rec (place + size) (left - run_length run) (drop size bs) (omega (arith, run_long w place left bs run size says)))
step_told F w place left bs (no_run k) says pos rec = here pos says

in_told : (w n place left : ℕ) (bs : List ℕ) → left ≤ n → Told w place left bs (walk_in w n place left bs).runs (walk_in w n place left bs).fault
unfolding walk_in walk_by
in_told w zero place left bs h =
    let z : left ≡ 0 = omega arith in
    subst (λ l. Told w place l bs (walk_end place bs).runs (walk_end place bs).fault) (sym z) (end_told w place bs)
in_told w (suc n) place left bs h = elim (cases_Bool (eqb left 0)) [
  | inl e ↦
      let z = eqb-true left 0 e in
      rw e (subst (λ l. Told w place l bs (walk_end place bs).runs (walk_end place bs).fault) (sym z) (end_told w place bs))
  | inr e ↦ rw e (step_told (walk_in w n) w place left bs (read_run w place left bs) (run_says w place left bs)
      (let ne = eqb-false left 0 e in omega (arith, ne)) (λ p l xs lt. in_told w n p l xs (omega arith)))
]

pub walk_told : (w place left : ℕ) (bs : List ℕ) → Told w place left bs (walk w place left bs).runs (walk w place left bs).fault
unfolding walk
walk_told w place left bs = in_told w left place left bs (omega arith)

-- the page

-- what a page's walk says of it
abbrev pub PageTold : List ℕ → ℕ → List ReadRun → Option ℕ → Type 0
PageTold page count rs None = (w : ℕ) × Means page count w rs
PageTold page count rs (Some p) = Malformed page count p

page_from : (w count : ℕ) (bs : List ℕ) (rs : List ReadRun) (o : Option ℕ) → w ≤ key_width → Told w 1 count bs rs o → PageTold (w ∷ bs) count rs o
page_from w count bs rs None h t = (w, means h t)
page_from w count bs rs (Some p) h t = wrong h t

pub page_told : (page : List ℕ) (count : ℕ) → PageTold page count (page_walk page count).runs (page_walk page count).fault
unfolding page_walk
page_told [] count = no_width
page_told (w ∷ bs) count = elim (cases_Bool (ltb key_width w)) [
  | inl e ↦ rw e (wide (ltb-true key_width w e))
  | inr e ↦ rw e (page_from w count bs (walk w 1 count bs).runs (walk w 1 count bs).fault (ltb-false key_width w e) (walk_told w 1 count bs))
]

pub means_walk : (page : List ℕ) (count w : ℕ) (rs : List ReadRun) → Means page count w rs → page_walk page count ≡ record { runs = rs; fault = None }
unfolding page_walk
means_walk page count w rs (means {bs = bs} h t) = rw (le-ltb key_width w h) (runs_walk w 1 count bs rs t)

pub malformed_walk : (page : List ℕ) (count p : ℕ) → Malformed page count p → (page_walk page count).fault ≡ Some p
unfolding page_walk
malformed_walk page count p no_width = refl
malformed_walk page count p (wide {w = w} h) = rw (lt-ltb key_width w h)
malformed_walk page count p (wrong {w = w} {bs = bs} h t) = rw (le-ltb key_width w h) (wrong_walk w 1 count bs p t)
