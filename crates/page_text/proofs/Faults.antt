-- A text has at most one fault, and a request none: so an answer that is right is the one answer. Assumes nothing.
use Rattle.std.proofs.Common.{◌≡◌, ℕ, Bool, true, not, List, Ok, Err, Result, vec_items, ◌≢◌, refl, sym, ap, ◌∙◌, arith}
use Rattle.std.specs.Result.{result_eq, IsErrAnd}
use Rattle.page_format.specs.declared.encoding.Encoding.{Encoding}
use Rattle.page_format.specs.declared.encoding.Encoding.TheVariants.{RleDictionary}
use Rattle.page_format.specs.declared.encoding.UnknownEncoding.{UnknownEncoding}
use Rattle.page_format.specs.Faults.{HasEncoding}
use Rattle.page_text.specs.declared.complaint.Complaint.{Complaint}
use Rattle.page_text.specs.declared.complaint.Complaint.TheVariants.{OtherEncoding}
use Rattle.page_text.specs.declared.request.Request.{Request}
use Rattle.page_text.specs.declared.request.RequestError.{RequestError}
use Rattle.page_text.specs.declared.request.RequestError.TheVariants.{Wrong, Memory}
use Rattle.page_text.specs.Complaints.{line_of}
use Rattle.page_text.specs.Pages.{PageOf}
use Rattle.page_text.specs.Requests.{Says, Short, Fault, Accepts, Rejects, Asks, Complains, Refuses, wrong, first_line}
use Rattle.page_text.proofs.Parsed.{Lines, lines_of, says_of, same_page, same_entries}

-- a page line has one encoding
one_encoding : (text : List ℕ) (l : ℕ) → Fault text l OtherEncoding → PageOf 8 (first_line text) → ⊥
one_encoding text l (at, short, (e, other, p)) q = other (same_page _ _ _ _ _ _ _ p.2 q.2).0

-- a number that is not read as the encoding 8 is not 8
pub not_eight : (E : Encoding → Encoding → Bool) (U : UnknownEncoding → UnknownEncoding → Bool) (n : ℕ) (r : Result Encoding UnknownEncoding) → HasEncoding n r → E RleDictionary RleDictionary ≡ true → true ≡ not (result_eq E U r (Ok RleDictionary)) → n ≢ 8
not_eight E U n (Ok k) h same t z = grind arith
not_eight E U n (Err u) h same t z = h.1 RleDictionary (sym z)

one_fault : (text : List ℕ) (l l' : ℕ) (w w' : Complaint) → Fault text l w → Fault text l' w' → w ≡ w'
one_fault text l l' w w' f g = let a = one_encoding text l in let b = one_encoding text l' in grind arith

no_fault : (text : List ℕ) (n : ℕ) (bs : List ℕ) (m : ℕ) → Short text → Says text n bs m → (l : ℕ) (w : Complaint) → Fault text l w → ⊥
no_fault text n bs m short says l w f = let lines = lines_of text n bs m says in let a = one_encoding text l in grind arith

line_is : (text : List ℕ) (l : ℕ) (w : Complaint) → Fault text l w → line_of w ≡ l
line_is text l w f = grind arith

-- what is promised of an answer
pub record Answers (text : List ℕ) (r : Result Request RequestError) : Type 0 where
  pub accepted : Accepts text r
  pub complete : (n : ℕ) (bs : List ℕ) (m : ℕ) → Short text → Says text n bs m → Asks r n bs m
  pub rejected : Rejects text r
  pub exact : (line : ℕ) (what : Complaint) → Fault text line what → Complains r line what

AnswersRefused : (text : List ℕ) (e : RequestError) (what : Complaint) → Refuses e what (Fault text (line_of what) what) → Answers text (Err e)
AnswersRefused text (Wrong w) what h =
    let f : Fault text w.line w.what = rw h.0 h.1 in
    record {
      accepted = tt;
      complete = λ n bs m short says. no_fault text n bs m short says w.line w.what f;
      rejected = f;
      exact = λ line other g.
          let same = one_fault text w.line line w.what other f g in
          (sym (line_is text w.line w.what f) ∙ ap line_of same ∙ line_is text line other g, same);
    }
AnswersRefused text (Memory e) what h = record { accepted = tt; complete = λ n bs m short says. tt; rejected = tt; exact = λ line what f. tt }

-- the three ways to an error: `from` a complaint, and a `?` on what may be a complaint or on a complaint
pub AnswersFrom : (text : List ℕ) (e : RequestError) (what : Complaint) → e ≡ wrong what → Fault text (line_of what) what → Answers text (Err e)
AnswersFrom text e what from f = AnswersRefused text e what (rw from (refl, f))

pub AnswersFrom_error : (text : List ℕ) (r : Result Request RequestError) (e : RequestError) (what : Complaint) (P : Type 0) → IsErrAnd r (λ d. d ≡ e) → Refuses e what P → (P → Fault text (line_of what) what) → Answers text r
AnswersFrom_error text (Ok q) e what P from h f = absurd from
AnswersFrom_error text (Err d) (Wrong w) what P from h f = rw from (AnswersRefused text (Wrong w) what (h.0, f h.1))
AnswersFrom_error text (Err d) (Memory e) what P from h f = rw from (AnswersRefused text (Memory e) what tt)

pub AnswersFrom_complaint : (text : List ℕ) (r : Result Request RequestError) (given what : Complaint) → IsErrAnd r (λ d. d ≡ wrong given) → given ≡ what → Fault text (line_of what) what → Answers text r
AnswersFrom_complaint text (Ok q) given what from same f = absurd from
AnswersFrom_complaint text (Err d) given what from same f = AnswersFrom text d what (from ∙ ap wrong same) f

pub AnswersAsked : (text : List ℕ) (q : Request) → Short text → Lines text q.count (vec_items q.bytes) q.entries → Answers text (Ok q)
AnswersAsked text q short lines =
    let says = says_of text q.count (vec_items q.bytes) q.entries lines in
    record {
      accepted = (short, says);
      complete = λ n bs m _ others.
          let other = lines_of text n bs m others in
          let same = same_page _ _ _ _ _ _ _ lines.first other.first in
          (same.1, same.2, same_entries _ _ _ lines.second other.second);
      rejected = tt;
      exact = λ line what f. no_fault text _ _ _ short says line what f;
    }
