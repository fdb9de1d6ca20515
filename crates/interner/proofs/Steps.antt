-- The three ways that a call can go.
use Rattle.std.proofs.Common.{◌≡◌, ℕ, List, [], ◌∷◌, ◌++◌, length, sym, refl, ap, ◌∙◌, arith}
use Rattle.page_format.specs.Faults.{Told, answered, rejected}
use Rattle.page_format.specs.Plain.{Bytes}
use Rattle.interner.specs.Entries.{Store, Holds, Distinct, pushed, after}
use Rattle.interner.specs.Interning.{Call, Step}
use Rattle.interner.proofs.Finding.{Absent, at, nowhere, sought, find_held, find_absent}

-- a push that is answered gives the next key
pub pushed_answered : (st : Store) (es : List Bytes) (v : Bytes) (place k : ℕ) → pushed st es v place ≡ answered k → k ≡ length es
pushed_answered st es v place k e = grind arith

-- the value is an entry, it becomes one, or the store does not take it
pub data Way (es : List Bytes) (v : Bytes) (a : Told ℕ) (es' : List Bytes) : Type 0 where
  known : (k : ℕ) → Holds es k v → a ≡ answered k → es' ≡ es → Way es v a es'
  added : Absent es v → a ≡ answered (length es) → es' ≡ es ++ v ∷ [] → Way es v a es'
  refused : (n l p : ℕ) → a ≡ rejected n l p → es' ≡ es → Way es v a es'

way_new : (st : Store) (es : List Bytes) (v : Bytes) (place : ℕ) (a p : Told ℕ) (es' : List Bytes) → Absent es v → p ≡ pushed st es v place → a ≡ p → es' ≡ after es v p → Way es v a es'
way_new st es v place a (answered k) es' none e ea ee = added none (ea ∙ ap answered (pushed_answered st es v place k (sym e))) ee
way_new st es v place a (rejected n l p) es' none e ea ee = refused n l p ea ee

pub way : {st : Store} {es es' : List Bytes} {c : Call} → Step st es c es' → Way es c.value c.answer es'
way {st} {es} {es'} {c} s =
    let v = c.value in
    elim (sought es v) [
      | at k q held ↦ known k held (rw q at s.answers) (rw q at s.entries)
      | nowhere q none ↦ way_new st es v c.place c.answer _ es' none refl (rw q at s.answers) (rw q at s.entries)
    ]

-- the step of a value that is an entry
pub step_known : (st : Store) (es : List Bytes) (v : Bytes) (place k : ℕ) → Distinct es → Holds es k v → Step st es (record { value = v; place = place; answer = answered k }) es
step_known st es v place k d h = let q = find_held es v k d h in record { answers = rw q refl; entries = rw q refl }

-- and of one that is none
pub step_new : (st : Store) (es : List Bytes) (v : Bytes) (place : ℕ) (a : Told ℕ) (es' : List Bytes) → Absent es v → a ≡ pushed st es v place → es' ≡ after es v a → Step st es (record { value = v; place = place; answer = a }) es'
step_new st es v place a es' none answer grown = let q = find_absent es v none in record { answers = rw q answer; entries = rw (q, ← answer) grown }
