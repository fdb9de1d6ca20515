-- The lines of a request, as they are written. Assumes nothing.
use Rattle.std.specs.Prelude.{◌≡◌, ℕ, ◌+◌, ◌/◌, ◌%◌, ◌^◌, ◌<◌, cond, List, [], ◌∷◌, ◌++◌, codes, decimal, nat_lt}
use Rattle.std.specs.List.{AllByRecursion}

-- 0 to 9, then A to F
abbrev pub hex_digit : ℕ → ℕ
hex_digit d = cond (nat_lt d 10) (48 + d) (55 + d)

-- two digits for each byte, the higher four bits first
unfoldable pub hex : List ℕ → List ℕ
hex [] = []
hex (b ∷ bs) = hex_digit (b / 16) ∷ (hex_digit (b % 16) ∷ hex bs)

abbrev pub Bytes : List ℕ → Type 0
Bytes bs = AllByRecursion (λ b. b < 256) bs

-- page E N :HEX, for the encoding e, the count n of values, and the page's bytes
unfoldable pub page_line : ℕ → ℕ → List ℕ → List ℕ
page_line e n bs = codes "page " ++ (decimal e ++ (codes " " ++ (decimal n ++ (codes " :" ++ hex bs))))

-- entries M
unfoldable pub entries_line : ℕ → List ℕ
entries_line m = codes "entries " ++ decimal m

-- both lines, each with its line feed
unfoldable pub request_text : ℕ → List ℕ → ℕ → List ℕ
request_text n bs m = page_line 8 n bs ++ (10 ∷ (entries_line m ++ (10 ∷ [])))

-- a line is the page line of these
pub record PageLine (line : List ℕ) (e n : ℕ) (bs : List ℕ) : Type 0 where
  pub encoding : e < 2 ^ 64
  pub count : n < 2 ^ 64
  pub bytes : Bytes bs
  pub text : line ≡ page_line e n bs

-- a line is a page line of encoding e, for some count and bytes
abbrev pub PageOf : ℕ → List ℕ → Type 0
PageOf e line = (n : ℕ) × (bs : List ℕ) × PageLine line e n bs

-- a line is a page line, of some encoding
abbrev pub IsPage : List ℕ → Type 0
IsPage line = (e : ℕ) × PageOf e line

-- a line is the entries line of this number
pub record EntriesLine (line : List ℕ) (m : ℕ) : Type 0 where
  pub entries : m < 2 ^ 64
  pub text : line ≡ entries_line m

-- a line is an entries line, of some number
abbrev pub IsEntries : List ℕ → Type 0
IsEntries line = (m : ℕ) × EntriesLine line m
