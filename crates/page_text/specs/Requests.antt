-- What the reader answers. Assumes nothing.
use Rattle.std.specs.Prelude.{◌≡◌, ℕ, ◌^◌, ◌<◌, ◌≤◌, ◌⊎◌, List, [], ◌∷◌, ◌++◌, length, vec_items, ◌≢◌, Ok, Err, Result}
use Rattle.page_text.specs.declared.complaint.Complaint.{Complaint}
use Rattle.page_text.specs.declared.complaint.Complaint.TheVariants.{TooLong, NotPageLine, OtherEncoding, NotEntriesLine, LineTooMany}
use Rattle.page_text.specs.declared.request.Request.{Request}
use Rattle.page_text.specs.declared.request.RequestError.{RequestError}
use Rattle.page_text.specs.declared.request.RequestError.TheVariants.{Wrong, Memory}
use Rattle.page_text.specs.Complaints.{wrong_of}
use Rattle.page_text.specs.Lines.{before, behind}
use Rattle.page_text.specs.Pages.{Bytes, request_text, PageOf, IsPage, IsEntries}

-- the text asks for n values from the page bs, and for m entries: it is the request's text, or that without the last line feed
pub record Says (text : List ℕ) (n : ℕ) (bs : List ℕ) (m : ℕ) : Type 0 where
  pub count : n < 2 ^ 64
  pub bytes : Bytes bs
  pub entries : m < 2 ^ 64
  pub whole : (text ≡ request_text n bs m) ⊎ (text ++ (10 ∷ []) ≡ request_text n bs m)

-- the lines, the second empty where there is none
abbrev pub first_line : List ℕ → List ℕ
first_line text = before 10 text

abbrev pub second_line : List ℕ → List ℕ
second_line text = before 10 (behind 10 text)

abbrev pub past_lines : List ℕ → List ℕ
past_lines text = behind 10 (behind 10 text)

-- the text is read: it has at most 2^20 bytes
abbrev pub Short : List ℕ → Type 0
Short text = length text ≤ 1048576

-- what is wrong with a text, and in which line, counted from 1
abbrev pub Fault : List ℕ → ℕ → Complaint → Type 0
Fault text line TooLong = (line ≡ 1) × (Short text → ⊥)
Fault text line NotPageLine = (line ≡ 1) × Short text × (IsPage (first_line text) → ⊥)
Fault text line OtherEncoding = (line ≡ 1) × Short text × ((e : ℕ) × (e ≢ 8) × PageOf e (first_line text))
Fault text line NotEntriesLine = (line ≡ 2) × Short text × PageOf 8 (first_line text) × (IsEntries (second_line text) → ⊥)
Fault text line LineTooMany = (line ≡ 3) × Short text × PageOf 8 (first_line text) × IsEntries (second_line text) × (past_lines text ≢ [])

-- The answer to a text: a request that it says, or a fault of it. Nothing is said where memory ran out.
abbrev pub Accepts : List ℕ → Result Request RequestError → Type 0
Accepts text (Ok q) = Short text × Says text q.count (vec_items q.bytes) q.entries
Accepts text (Err e) = Unit {0}

abbrev pub Rejects : List ℕ → Result Request RequestError → Type 0
Rejects text (Ok q) = Unit {0}
Rejects text (Err (Wrong w)) = Fault text w.line w.what
Rejects text (Err (Memory e)) = Unit {0}

-- the answer is the request for n values from bs and m entries, unless memory ran out
abbrev pub Asks : Result Request RequestError → ℕ → List ℕ → ℕ → Type 0
Asks (Ok q) n bs m = (q.count ≡ n) × (vec_items q.bytes ≡ bs) × (q.entries ≡ m)
Asks (Err (Wrong w)) n bs m = ⊥
Asks (Err (Memory e)) n bs m = Unit {0}

-- the answer is this complaint about this line, unless memory ran out
abbrev pub Complains : Result Request RequestError → ℕ → Complaint → Type 0
Complains (Ok q) line what = ⊥
Complains (Err (Wrong w)) line what = (w.line ≡ line) × (w.what ≡ what)
Complains (Err (Memory e)) line what = Unit {0}

-- the error that a complaint makes
abbrev pub wrong : Complaint → RequestError
wrong what = Wrong (wrong_of what)

-- the error is this complaint, for a reason P, unless memory ran out
abbrev pub Refuses : RequestError → Complaint → Type 0 → Type 0
Refuses (Wrong w) what P = (w ≡ wrong_of what) × P
Refuses (Memory e) what P = Unit {0}
