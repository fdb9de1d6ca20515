-- What `ok`, `ok_or` and a `?` on a complaint answer. Assumes nothing.
use Rattle.std.proofs.Common.{◌≡◌, Ok, Err, Some, None, Option, Result, MatchOption, MatchResult, refl, ap}
use Rattle.std.specs.Option.{ok_or}
use Rattle.std.specs.Result.{IfErr, IsErrAnd, result_ok}
use Rattle.page_text.specs.declared.complaint.Complaint.{Complaint}
use Rattle.page_text.specs.declared.request.RequestError.{RequestError}
use Rattle.page_text.specs.Complaints.{wrong_of}
use Rattle.page_text.specs.Requests.{wrong, Refuses}

-- what a clause says of a `Result`, said of its `ok`
pub MatchOptionResult_ok : {T E : Type 0} (P : T → Type 0) (Q : E → Type 0) (r : Result T E) → MatchResult r P Q → MatchOption (result_ok r) ((e : E) × Q e) P
MatchOptionResult_ok P Q (Ok x) h = h
MatchOptionResult_ok P Q (Err e) h = (e, h)

-- what a clause says of an `Option`, said of its `ok_or`
pub MatchResultOk_or : {T E : Type 0} (P : T → Type 0) (Q : Type 0) (o : Option T) (e : E) → MatchOption o Q P → MatchResult (ok_or o e) P (λ x. (x ≡ e) × Q)
MatchResultOk_or P Q (Some x) e h = h
MatchResultOk_or P Q None e h = (refl, h)

-- the exit of `o.ok_or(what)?`
pub IfErrRefused : {T X : Type 0} (r : Result T RequestError) (o : Option X) (f what : Complaint) (P : Type 0) → IsErrAnd r (λ e. e ≡ wrong f) → ◌≡◌ {A = Result X Complaint} (Err f) (ok_or o what) → P → IfErr r (λ e. Refuses e what P)
IfErrRefused (Ok x) o f what P from value p = tt
IfErrRefused (Err e) (Some x) f what P from value p = cc
IfErrRefused (Err e) None f what P from value p =
    let same : f ≡ what = cc in
    rw from (ap wrong_of same, p)
