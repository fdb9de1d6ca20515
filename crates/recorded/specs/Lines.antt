-- What lines of commands and recorded answers ask for, and what it means that they were replayed.
use Rattle.std.specs.Prelude.{◌≡◌, ℕ, Bool, false, List, [], ◌∷◌, map, length, take, drop, cond, min, count_by, Result, Ok, String, codes, bytes_eq, string_bytes}
use Rattle.std.specs.Borrow.{Bor}
use Rattle.std.specs.List.{All}
use Rattle.std.specs.Fn.{Shared, FnReturnsAt, FnReturnsAtPair}
use Rattle.std.specs.declared.alloc.Global.{Global}
use Rattle.recorded.specs.declared.tally.Tally.{Tally}

-- a line that begins with `= `
abbrev pub is_answer : List ℕ → Bool
is_answer line = bytes_eq (take 2 line) (codes "= ")

-- the recorded answers among lines, each with its command, which is the last line before it that is none
abbrev pub asked : List ℕ → List (List ℕ) → List (List ℕ × List ℕ)
asked command [] = []
asked command (line ∷ lines) = cond (is_answer line) ((command, drop 2 line) ∷ asked command lines) (asked line lines)

-- a command, the answer that was recorded, and ours
pub record Case : Type 0 where
  pub command : List ℕ
  pub recorded : List ℕ
  pub ours : List ℕ

-- what the lines say of a case
abbrev pub said : Case → List ℕ × List ℕ
said c = (c.command, c.recorded)

abbrev pub agrees : Case → Bool
agrees c = bytes_eq c.ours c.recorded

-- `answer` gave ours
abbrev pub Answered : {A E : Type 0} → Shared A (Bor (List ℕ) × Unit {0}) (Result (String Global) E) → A → Case → Type 0
Answered gives answer c = (s : String Global) × FnReturnsAt gives answer c.command (Ok s) × (string_bytes s ≡ c.ours)

-- what differs was told to `differs`
abbrev pub Told : {D E : Type 0} → Shared D (Bor (List ℕ) × (Bor (List ℕ) × Unit {0})) (Result (Unit {0}) E) → D → Case → Type 0
Told tells differs c = agrees c ≡ false → FnReturnsAtPair tells differs c.command c.ours (Ok tt)

-- a tally counts no further
abbrev pub most : ℕ
most = 4294967295

-- the cases of lines, each with what `answer` gave; those that differ were told to `differs`, and all are counted
pub record Replayed {A D E : Type 0} (gives : Shared A (Bor (List ℕ) × Unit {0}) (Result (String Global) E)) (answer : A)
    (tells : Shared D (Bor (List ℕ) × (Bor (List ℕ) × Unit {0})) (Result (Unit {0}) E)) (differs : D) (lines : List (List ℕ)) (cases : List Case) (tally : Tally) : Type 0 where
  pub asks : map said cases ≡ asked [] lines
  pub answers : All (Answered gives answer) cases
  pub told : All (Told tells differs) cases
  pub all_is : tally.all ≡ min (length cases) most
  pub agree_is : tally.agree ≡ min (count_by agrees cases) most
