-- The run writer as a machine over lists.
use Rattle.std.specs.Prelude.{ℕ, ◌+◌, cond, List, [], ◌∷◌, ◌++◌, length, ◌==◌, nat_le, nat_lt}
use Rattle.key_pages.specs.Runs.{Run, repeat, packed, filled}

-- runs are the closed runs, groups the open packed run's, part the keys that wait, last the last key and count its repeats
pub record Writer : Type 0 where
  pub runs : List Run
  pub groups : List (List ℕ)
  pub part : List ℕ
  pub last : ℕ
  pub count : ℕ

abbrev pub start : Writer
start = record { runs = []; groups = []; part = []; last = 0; count = 0 }

-- the runs with the open packed run closed
abbrev pub closed : List Run → List (List ℕ) → List Run
closed rs [] = rs
closed rs (g ∷ gs) = rs ++ packed (g ∷ gs) ∷ []

-- a full group p, whose last count keys equal last
abbrev pub full : List Run → List (List ℕ) → List ℕ → ℕ → ℕ → Writer
full rs gs p last count =
    cond (count == 8)
    (record { runs = closed rs gs; groups = []; part = []; last = last; count = 8 })
    (cond (length gs == 62)
    (record { runs = rs ++ packed (gs ++ p ∷ []) ∷ []; groups = []; part = []; last = last; count = 0 })
    (record { runs = rs; groups = gs ++ p ∷ []; part = []; last = last; count = 0 }))

-- a key joins the group p
abbrev pub joins : List Run → List (List ℕ) → List ℕ → ℕ → ℕ → Writer
joins rs gs p key count =
    cond (nat_lt (length p) 7)
    (record { runs = rs; groups = gs; part = p ++ key ∷ []; last = key; count = count })
    (full rs gs (p ++ key ∷ []) key count)

abbrev pub put : Writer → ℕ → Writer
put m key =
    cond (key == m.last)
    (cond (nat_le 8 m.count)
    (record { runs = m.runs; groups = m.groups; part = m.part; last = m.last; count = m.count + 1 })
    (joins m.runs m.groups m.part key (m.count + 1)))
    (cond (nat_le 8 m.count)
    (joins (m.runs ++ repeat m.count m.last ∷ []) m.groups m.part key 1)
    (joins m.runs m.groups m.part key 1))

abbrev pub puts : Writer → List ℕ → Writer
puts m [] = m
puts m (k ∷ ks) = puts (put m k) ks

-- the part group at the end, with the open packed run gs
abbrev pub ends : List Run → List (List ℕ) → List ℕ → ℕ → ℕ → List Run
ends rs [] p last count =
    cond (nat_le 8 count) (rs ++ repeat count last ∷ [])
    (cond (length p == 0) rs
    (cond (count == length p) (rs ++ repeat count last ∷ []) (rs ++ packed (filled p ∷ []) ∷ [])))
ends rs (g ∷ gs) p last count =
    cond (length p == 0) (rs ++ packed (g ∷ gs) ∷ []) (rs ++ packed ((g ∷ gs) ++ filled p ∷ []) ∷ [])

abbrev pub finish : Writer → List Run
finish m = ends m.runs m.groups m.part m.last m.count

abbrev pub written : List ℕ → List Run
written ks = finish (puts start ks)
