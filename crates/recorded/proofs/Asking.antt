-- Lines in front of others, and the loop over lines.
use Rattle.std.proofs.Common.{◌≡◌, ℕ, Bool, Decides, true, false, List, [], ◌∷◌, ◌++◌, map, cond, Result, Ok, Bor, String, string_bytes, take, drop, codes, count_by, ◌≢◌, min, bytes_eq, ◌+◌, refl, ap, sym, ◌∙◌, arith}
use Rattle.std.proofs.lemmas.Slice.Eq.{bytes_eq-Decides}
use Rattle.std.proofs.lemmas.List.{append-nil, take-append-drop, length_push, map_push}
use Rattle.std.proofs.lemmas.List.Elements.{All-push}
use Rattle.std.proofs.lemmas.List.Sums.{sum_by_push}
use Rattle.std.specs.Fn.{Shared, FnReturnsAt, FnReturnsAtPair}
use Rattle.std.specs.declared.alloc.Global.{Global}
use Rattle.std.specs.declared.io.Error.{Error}
use Rattle.recorded.specs.declared.tally.Tally.{Tally}
use Rattle.recorded.specs.Lines.{is_answer, asked, said, agrees, Case, Answered, Told, most, Replayed}

-- the command behind lines
abbrev pub last_command : List ℕ → List (List ℕ) → List ℕ
last_command command [] = command
last_command command (line ∷ lines) = last_command (cond (is_answer line) command line) lines

pub last_more : (command : List ℕ) (lines : List (List ℕ)) (line : List ℕ) → last_command command (lines ++ line ∷ []) ≡ cond (is_answer line) (last_command command lines) line
last_more command [] line = refl
last_more command (l ∷ lines) line = last_more (cond (is_answer l) command l) lines line

pub asked_more : (command : List ℕ) (lines : List (List ℕ)) (line : List ℕ) → asked command (lines ++ line ∷ []) ≡ asked command lines ++ asked (last_command command lines) (line ∷ [])
asked_more command [] line = refl
asked_more command (l ∷ lines) line = at (is_answer l) (asked_more command lines line) (asked_more l lines line)
  where
    at : (b : Bool) → asked command (lines ++ line ∷ []) ≡ asked command lines ++ asked (last_command command lines) (line ∷ []) → asked l (lines ++ line ∷ []) ≡ asked l lines ++ asked (last_command l lines) (line ∷ [])
        → cond b ((command, drop 2 l) ∷ asked command (lines ++ line ∷ [])) (asked l (lines ++ line ∷ [])) ≡ cond b ((command, drop 2 l) ∷ asked command lines) (asked l lines) ++ asked (last_command (cond b command l) lines) (line ∷ [])
    at true same other = ap (λ xs. (command, drop 2 l) ∷ xs) same
    at false same other = other

-- what `strip_prefix` says of a line
pub an_answer : (line rest : List ℕ) → line ≡ codes "= " ++ rest → is_answer line ≡ true
an_answer line rest is = rw is refl

refuted : {P : Type 0} (b : Bool) → Decides b P → (P → ⊥) → b ≡ false
refuted true is never = absurd (never (is.0 refl))
refuted false _ _ = refl

pub no_answer : (line : List ℕ) → ((rest : List ℕ) → line ≢ codes "= " ++ rest) → is_answer line ≡ false
no_answer line lacks = refuted (is_answer line) (bytes_eq-Decides (take 2 line) (codes "= ")) (λ e. lacks (drop 2 line) (sym (take-append-drop 2 line) ∙ ap (λ front. front ++ drop 2 line) e))

-- what the loop has come to
pub record Along {A D E : Type 0} (gives : Shared A (Bor (List ℕ) × Unit {0}) (Result (String Global) E)) (answer : A)
    (tells : Shared D (Bor (List ℕ) × (Bor (List ℕ) × Unit {0})) (Result (Unit {0}) E)) (differs : D)
    (yielded : List (Result (String Global) Error)) (command : String Global) (tally : Tally) : Type 0 where
  pub read : List (String Global)
  pub cases : List Case
  pub read_is : yielded ≡ map (λ line. Ok line) read
  pub command_is : string_bytes command ≡ last_command [] (map (λ line. string_bytes line) read)
  pub replayed : Replayed gives answer tells differs (map (λ line. string_bytes line) read) cases tally

-- a count goes on up to the most
counted : (b : Bool) (a n : ℕ) → a ≡ min n most → cond b (min (a + 1) most) a ≡ min (n + cond b 1 0) most
counted true a n is = omega (arith, is)
counted false a n is = omega (arith, is)

module _ {A D E : Type 0} {gives : Shared A (Bor (List ℕ) × Unit {0}) (Result (String Global) E)} {answer : A}
    {tells : Shared D (Bor (List ℕ) × (Bor (List ℕ) × Unit {0})) (Result (Unit {0}) E)} {differs : D} where
  -- before the first line
  pub along_none : (command : String Global) (tally : Tally) → string_bytes command ≡ [] → tally.all ≡ 0 → tally.agree ≡ 0 → Along gives answer tells differs [] command tally
  along_none command tally empty all agree = record {
    read = [];
    cases = [];
    read_is = refl;
    command_is = empty;
    replayed = record { asks = refl; answers = λ k d lt. absurd (omega arith); told = λ k d lt. absurd (omega arith); all_is = all; agree_is = agree };
  }

  module _ {yielded : List (Result (String Global) Error)} {command : String Global} {tally : Tally} (along : Along gives answer tells differs yielded command tally) (item : Result (String Global) Error) (line : String Global) (item_is : item ≡ Ok line) where
    abbrev text : String Global → List ℕ
    text s = string_bytes s

    read_more : yielded ++ item ∷ [] ≡ map (λ s. Ok s) (along.read ++ line ∷ [])
    read_more = ap (λ x. yielded ++ x ∷ []) item_is ∙ ap (λ xs. xs ++ Ok line ∷ []) along.read_is ∙ sym (map_push (λ s. Ok s) along.read line)

    -- a command more
    pub along_command : is_answer (string_bytes line) ≡ false → Along gives answer tells differs (yielded ++ item ∷ []) line tally
    along_command none = record {
      read = along.read ++ line ∷ [];
      cases = along.cases;
      read_is = read_more;
      command_is = rw (map_push text along.read line, last_more, none) refl;
      replayed = record {
        asks = rw (map_push text along.read line, asked_more, none, append-nil) along.replayed.asks;
        answers = along.replayed.answers;
        told = along.replayed.told;
        all_is = along.replayed.all_is;
        agree_is = along.replayed.agree_is;
      };
    }

    -- an answer more
    pub along_answer : is_answer (string_bytes line) ≡ true → (ours : String Global) → FnReturnsAt gives answer (string_bytes command) (Ok ours)
        → (bytes_eq (string_bytes ours) (drop 2 (string_bytes line)) ≡ false → FnReturnsAtPair tells differs (string_bytes command) (string_bytes ours) (Ok tt))
        → (tally' : Tally) → tally'.all ≡ min (tally.all + 1) most → tally'.agree ≡ cond (bytes_eq (string_bytes ours) (drop 2 (string_bytes line))) (min (tally.agree + 1) most) tally.agree
        → Along gives answer tells differs (yielded ++ item ∷ []) command tally'
    along_answer is ours gave told tally' all agree =
        let c : Case = record { command = string_bytes command; recorded = drop 2 (string_bytes line); ours = string_bytes ours } in
        let more : count_by agrees (along.cases ++ c ∷ []) ≡ count_by agrees along.cases + cond (agrees c) 1 0 = sum_by_push (λ c. cond (agrees c) 1 0) along.cases c in
        record {
          read = along.read ++ line ∷ [];
          cases = along.cases ++ c ∷ [];
          read_is = read_more;
          command_is = rw (map_push text along.read line, last_more, is) along.command_is;
          replayed = record {
            asks = rw (map_push said along.cases c, map_push text along.read line, asked_more, is, along.replayed.asks, ← along.command_is) refl;
            answers = All-push (Answered gives answer) along.cases c along.replayed.answers (ours, gave, refl);
            told = All-push (Told tells differs) along.cases c along.replayed.told told;
            all_is = omega (arith, all, along.replayed.all_is, length_push along.cases c);
            agree_is = agree ∙ counted (agrees c) tally.agree (count_by agrees along.cases) along.replayed.agree_is ∙ ap (λ n. min n most) (sym more);
          };
        }
