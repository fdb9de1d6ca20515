-- The lines of a report, as bytes.
use Rattle.std.specs.Prelude.{ℕ, Bool, true, false, List, ◌++◌, codes, decimal}
use Rattle.page_format.specs.Faults.{fault_text}
use Rattle.page_format.specs.declared.fault.Fault.{Fault}
use Rattle.page_text.specs.Complaints.{complaint_text}
use Rattle.page_text.specs.Pages.{hex}
use Rattle.page_text.specs.Written.{spaced}
use Rattle.page_text.specs.declared.complaint.Complaint.{Complaint}
use Rattle.key_pages.specs.Meaning.{ReadRun, repeats, packs}

-- what is wrong with a text, and in which line
abbrev pub complaint_line : ℕ → Complaint → List ℕ
complaint_line line what = complaint_text line what ++ codes "\n"

-- why a page was rejected
abbrev pub fault_line : Fault → List ℕ
fault_line f = fault_text f ++ codes "\n"

-- a run of this sort: its count or its groups, its bytes, and its place
abbrev pub run_text : List ℕ → ℕ → List ℕ → ℕ → List ℕ
run_text sort number bytes place = codes "run " ++ (sort ++ (codes " " ++ (decimal number ++ (codes " :" ++ (hex bytes ++ (codes " at " ++ (decimal place ++ codes "\n")))))))

abbrev pub run_line : ReadRun → List ℕ
run_line (repeats place count value) = run_text (codes "repeat") count value place
run_line (packs place groups bytes) = run_text (codes "packed") groups bytes place

-- a word and numbers behind it
abbrev pub list_line : List ℕ → List ℕ → List ℕ
list_line word ks = word ++ (spaced ks ++ codes "\n")

abbrev pub same_line : Bool → List ℕ
same_line true = codes "same yes\n"
same_line false = codes "same no\n"

-- the lines behind those of the runs: the keys, the used keys, and whether the page is the same
abbrev pub lines_behind_runs : List ℕ → List ℕ → Bool → List ℕ
lines_behind_runs keys used same = list_line (codes "keys") keys ++ (list_line (codes "used") used ++ same_line same)

-- the lines of runs, and then those of keys and used keys, and whether the page is the same
abbrev pub contents_text : List ℕ → List ℕ → List ℕ → Bool → List ℕ
contents_text runs keys used same = runs ++ lines_behind_runs keys used same
