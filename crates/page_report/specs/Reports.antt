-- What a report says of a text.
use Rattle.std.specs.Prelude.{◌≡◌, ℕ, ◌-◌, ◌^◌, ◌<◌, Bool, List, length, Ok, Err, Result, vec_items, Decides, Vec, ◌≢◌, slice_index}
use Rattle.std.specs.declared.alloc.Global.{Global}
use Rattle.std.specs.List.{flat_map, ContainsAt as Has, AllByRecursion}
use Rattle.page_format.specs.Bits.{BitsOf}
use Rattle.page_format.specs.declared.fault.Fault.{Fault}
use Rattle.page_text.specs.Requests.{Says, Short, Fault as TextFault}
use Rattle.page_text.specs.declared.complaint.Complaint.{Complaint}
use Rattle.key_pages.specs.Claims.{WithinLimits}
use Rattle.page_report.specs.declared.failure.Failure.{Failure}
use Rattle.page_report.specs.declared.failure.Failure.TheVariants.{Rejected, Memory}
use Rattle.key_pages.specs.Meaning.{ReadRun, keys_of}
use Rattle.key_pages.specs.Opening.{Accepted, Refused}
use Rattle.key_pages.specs.Runs.{page}
use Rattle.page_report.specs.Lines.{complaint_line, fault_line, run_line, contents_text}

-- the list has each of the keys once, and nothing else
pub record Once (keys used : List ℕ) : Type 0 where
  pub distinct : (i j : ℕ) → i < j → j < length used → slice_index used i ≢ slice_index used j
  pub only : (i : ℕ) → i < length used → Has keys (slice_index used i)
  pub each : (key : ℕ) → Has keys key → Has used key

-- our writer makes these bytes of these keys at width w
pub record Makes (w : ℕ) (keys bytes : List ℕ) : Type 0 where
  pub limited : WithinLimits w (length keys)
  pub fits : AllByRecursion (λ k. k < 2 ^ w) keys
  pub is : page w keys ≡ bytes

-- the page that our writer makes of these keys, or that it makes none; nothing is said where memory ran out
abbrev pub OwnPage : ℕ → List ℕ → Result (Vec ℕ Global) Failure → Type 0
OwnPage w keys (Ok v) = Makes w keys (vec_items v)
OwnPage w keys (Err (Rejected f)) = (bytes : List ℕ) → Makes w keys bytes → ⊥
OwnPage w keys (Err (Memory e)) = Unit {0}

-- what is told of a page that opens
pub record Told (bytes : List ℕ) (count entries : ℕ) (text : List ℕ) : Type 0 where
  pub width : ℕ
  pub runs : List ReadRun
  pub accepted : Accepted bytes count entries width runs
  pub used : List ℕ
  pub once : Once (keys_of width count runs) used
  -- the width that our writer has for so many entries, and whether it makes the same bytes
  pub own_width : ℕ
  pub own : BitsOf (entries - 1) own_width
  pub same : Bool
  pub decides : Decides same (page own_width (keys_of width count runs) ≡ bytes)
  pub says : text ≡ contents_text (flat_map run_line runs) (keys_of width count runs) used same

-- what is in a page, or why it is rejected
pub data Answered (bytes : List ℕ) (count entries : ℕ) (text : List ℕ) : Type 0 where
  rejects : (f : Fault) → Refused bytes count entries f → text ≡ fault_line f → Answered bytes count entries text
  tells : Told bytes count entries text → Answered bytes count entries text

-- the report on a text: what is wrong with it, or the answer to what it asks for
pub data Report (input text : List ℕ) : Type 0 where
  complains : (line : ℕ) (what : Complaint) → TextFault input line what → text ≡ complaint_line line what → Report input text
  answers : (count : ℕ) (bytes : List ℕ) (entries : ℕ) → Short input → Says input count bytes entries → Answered bytes count entries text → Report input text
