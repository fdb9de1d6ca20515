-- The line and the words of each complaint. Assumes nothing.
use Rattle.std.specs.Prelude.{ℕ, List, ◌++◌, codes, decimal}
use Rattle.page_text.specs.declared.complaint.Complaint.{Complaint}
use Rattle.page_text.specs.declared.complaint.Complaint.TheVariants.{TooLong, NotPageLine, OtherEncoding, NotEntriesLine, LineTooMany}
use Rattle.page_text.specs.declared.complaint.Wrong.{Wrong}

abbrev pub complaint_words : Complaint → List ℕ
complaint_words TooLong = codes "the text is longer than 1048576 bytes"
complaint_words NotPageLine = codes "expected 'page E N :HEX', decimal numbers below 2^64 and upper-case hex"
complaint_words OtherEncoding = codes "this encoding is not read, only 8 is"
complaint_words NotEntriesLine = codes "expected 'entries M', a decimal number below 2^64"
complaint_words LineTooMany = codes "nothing may follow the entries line"

-- what is wrong, and in which line
abbrev pub complaint_text : ℕ → Complaint → List ℕ
complaint_text line what = codes "line " ++ (decimal line ++ (codes ": " ++ complaint_words what))

-- the line that a complaint is about, counted from 1
abbrev pub line_of : Complaint → ℕ
line_of TooLong = 1
line_of NotPageLine = 1
line_of OtherEncoding = 1
line_of NotEntriesLine = 2
line_of LineTooMany = 3

abbrev pub wrong_of : Complaint → Wrong
wrong_of what = record { line = line_of what; what = what }
