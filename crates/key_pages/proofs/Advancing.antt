-- One run on.
use Rattle.std.proofs.Common.{◌≡◌, ℕ, ◌+◌, ◌*◌, ◌^◌, ◌<◌, ◌≤◌, true, List, length, take, drop, Ok, Err, Result, IfOk, IfErr, arith, length-drop}
use Rattle.std.proofs.lemmas.List.{length-take-le}
use Rattle.std.proofs.lemmas.Bool.Decides.{nat_tests}
use Rattle.page_format.specs.Bits.{bytes_for}
use Rattle.key_pages.specs.Meaning.{ReadRun, RunAt, a_repeat, a_packed, WrongRun, no_header, empty_run, too_many, cut_value, too_long, cut_groups}
use Rattle.key_pages.specs.Views.{view, whole}
use Rattle.key_pages.specs.Reading.{a_run, read_run}
use Rattle.key_pages.specs.Coming.{ReadAs, next_step}
use Rattle.key_pages.specs.declared.runs.Runs.{Runs}
use Rattle.key_pages.specs.declared.runs.Found.{Found}
use Rattle.key_pages.proofs.Fields.{varint_sized}
use Rattle.key_pages.proofs.Walking.{run_found, run_missed, run_within}

part_long : (n k : ℕ) (bs : List ℕ) → n + k ≤ length bs → length (take k (drop n bs)) ≡ k
part_long n k bs h = length-take-le k (drop n bs) (omega (arith, length-drop n bs))

at_whole : (w place left : ℕ) (bs : List ℕ) (run : ReadRun) (size : ℕ) → RunAt w place left bs run size → whole w run ≡ true
at_whole w place left bs run size (a_repeat count n h pos few fits) = let l = part_long n (bytes_for w) bs fits in grind (arith, nat_tests)
at_whole w place left bs run size (a_packed groups n h pos few fits) =
    let l = part_long n (groups * w) bs fits in
    let s : groups < 2 ^ 32 = omega arith in
    grind (arith, nat_tests)

pub run_whole : (w place left : ℕ) (bs : List ℕ) (run : ReadRun) (size : ℕ) → read_run w place left bs ≡ a_run run size → whole w run ≡ true
run_whole w place left bs run size e = at_whole w place left bs run size (run_found w place left bs run size e)

wrong_within : (w left : ℕ) (bs : List ℕ) (k : ℕ) → WrongRun w left bs k → k ≤ length bs
wrong_within w left bs k (no_header b e) = omega arith
wrong_within w left bs k (empty_run h n e lt) = omega arith
wrong_within w left bs k (too_many count n e lt) = omega arith
wrong_within w left bs k (cut_value count n e pos few lt) = (varint_sized 32 bs (record { value = 2 * count; len = n }) e).inside
wrong_within w left bs k (too_long groups n e lt) = omega arith
wrong_within w left bs k (cut_groups groups n e pos few lt) = (varint_sized 32 bs (record { value = 2 * groups + 1; len = n }) e).inside

-- a run that was read ends within the page; a wrong field lies within the page

pub read_ok : (s : Runs) (r : Result Found ℕ) → ReadAs (next_step s) r → IfOk r (λ f. (s.place + f.size ≤ length s.page.now) × (whole s.width.bits (view f.run) ≡ true))
read_ok s (Ok f) e =
    let at = run_found s.width.bits s.place s.left (drop s.place s.page.now) (view f.run) f.size e in (
      omega (arith, s.within, run_within _ _ _ _ _ _ at, length-drop s.place s.page.now),
      run_whole s.width.bits s.place s.left (drop s.place s.page.now) (view f.run) f.size e,
    )
read_ok s (Err k) e = tt

pub read_err : (s : Runs) (r : Result Found ℕ) → ReadAs (next_step s) r → IfErr r (λ k. s.place + k ≤ length s.page.now)
read_err s (Ok f) e = tt
read_err s (Err k) e = omega (arith, s.within, wrong_within _ _ _ _ (run_missed s.width.bits s.place s.left (drop s.place s.page.now) k e), length-drop s.place s.page.now)

-- where a run that was read, or its first wrong field, ends
pub ruleset bounds = (varint_sized, read_ok, read_err)
