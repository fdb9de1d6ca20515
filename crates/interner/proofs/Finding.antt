-- Where a value stands among the entries, and what one more entry changes.
use Rattle.std.proofs.Common.{◌≡◌, ◌≢◌, ℕ, List, [], ◌∷◌, ◌++◌, length, Some, None, refl, ap, ◌∙◌, inl, inr, arith}
use Rattle.std.specs.List.{position_or_len}
use Rattle.std.specs.Str.{bytes_eq}
use Rattle.std.proofs.lemmas.Slice.Eq.{bytes_eq-Decides}
use Rattle.std.proofs.lemmas.List.{length_push, get_or_append_left, get_or_default}
use Rattle.std.proofs.lemmas.List.Sums.{fails_before_first, passes_at_first}
use Rattle.std.proofs.lemmas.List.Quantifiers.{all_pairs_push}
use Rattle.std.proofs.lemmas.Bool.{cases_lt, cases_order, lt-ltb, le-ltb}
use Rattle.page_format.specs.Plain.{Bytes}
use Rattle.interner.specs.Entries.{Holds, Distinct}
use Rattle.interner.specs.Interning.{find}

abbrev pub Absent : List Bytes → Bytes → Type 0
Absent es v = (k : ℕ) → Holds es k v → ⊥

-- v is an entry, or it is none
pub data Sought (es : List Bytes) (v : Bytes) : Type 0 where
  at : (k : ℕ) → find es v ≡ Some k → Holds es k v → Sought es v
  nowhere : find es v ≡ None → Absent es v → Sought es v

pub sought : (es : List Bytes) (v : Bytes) → Sought es v
sought es v =
    let is_v = λ (e : Bytes). bytes_eq e v in
    let first = position_or_len is_v es in
    elim (cases_lt first (length es)) [
      | inl lt ↦ at first (rw lt-ltb refl) (lt, (bytes_eq-Decides _ v).0 (passes_at_first is_v es [] lt))
      | inr ge ↦ nowhere (rw le-ltb refl) (λ k (lt, q). let no = fails_before_first is_v es k [] (omega arith) in let yes = (bytes_eq-Decides _ v).1 q in cc)
    ]

one_key : (es : List Bytes) (v : Bytes) (a b : ℕ) → Distinct es → Holds es a v → Holds es b v → a ≡ b
one_key es v a b d (la, ea) (lb, eb) =
    elim (cases_order a b) [ inl q ↦ q | inr (inl lt) ↦ absurd (d a b [] lt lb (cc)) | inr (inr gt) ↦ absurd (d b a [] gt la (cc)) ]

pub find_held : (es : List Bytes) (v : Bytes) (k : ℕ) → Distinct es → Holds es k v → find es v ≡ Some k
find_held es v k d h = elim (sought es v) [ at j q held ↦ q ∙ ap Some (one_key es v j k d held h) | nowhere q none ↦ absurd (none k h) ]

pub find_absent : (es : List Bytes) (v : Bytes) → Absent es v → find es v ≡ None
find_absent es v none = elim (sought es v) [ at k q held ↦ absurd (none k held) | nowhere q _ ↦ q ]

pub holds_push : (es : List Bytes) (v : Bytes) (k : ℕ) (w : Bytes) → Holds es k w → Holds (es ++ v ∷ []) k w
holds_push es v k w (lt, q) = (omega (arith, length_push es v), get_or_append_left es (v ∷ []) [] k lt ∙ q)

pub distinct_push : (es : List Bytes) (v : Bytes) → Absent es v → Distinct es → Distinct (es ++ v ∷ [])
distinct_push es v none d = all_pairs_push ◌≢◌ es v d (λ k d lt e. none k (lt, get_or_default es k [] d lt ∙ e))
