-- What holds of every list of calls.
use Rattle.std.proofs.Common.{◌≡◌, ℕ, true, false, List, [], ◌++◌, map, length, sym, refl, ap, ◌∙◌, append_assoc, arith}
use Rattle.std.specs.List.{All}
use Rattle.std.proofs.lemmas.List.{length_push, get_or_push, append-nil}
use Rattle.std.specs.Str.{bytes_eq}
use Rattle.std.proofs.lemmas.List.Elements.{All-nil, All-cons, All-from_get_or}
use Rattle.std.proofs.lemmas.List.Folds.{list_any_at, list_any_none}
use Rattle.std.proofs.lemmas.Bool.{false_from_ne_true}
use Rattle.std.proofs.lemmas.Slice.Eq.{bytes_eq-Decides}
use Rattle.page_format.specs.Faults.{Told, answered}
use Rattle.page_format.specs.Plain.{Bytes}
use Rattle.interner.specs.Entries.{Store, Holds, Distinct}
use Rattle.interner.specs.Interning.{interned, entries_after, Call, Step, Runs, stop, then, if_answered, accepted, first_appearances, Ask, asked, NamesItsValue, EveryRun}
use Rattle.interner.proofs.Finding.{Absent, holds_push, distinct_push}
use Rattle.interner.proofs.Firsts.{listed, firsts_push}
use Rattle.interner.proofs.Steps.{Way, known, added, refused, way}

extends : {es es' : List Bytes} {v : Bytes} {a : Told ℕ} → Way es v a es' → (k : ℕ) (w : Bytes) → Holds es k w → Holds es' k w
extends (known _ _ _ q) k w h = rw q h
extends {es} {es'} {v} {a} (added _ _ q) k w h = rw q (holds_push es v k w h)
extends (refused _ _ _ _ q) k w h = rw q h

stays_distinct : {es es' : List Bytes} {v : Bytes} {a : Told ℕ} → Way es v a es' → Distinct es → Distinct es'
stays_distinct (known _ _ _ q) d = rw q d
stays_distinct {es} {es'} {v} {a} (added none _ q) d = rw q (distinct_push es v none d)
stays_distinct (refused _ _ _ _ q) d = rw q d

names : {es es' : List Bytes} {v : Bytes} {a : Told ℕ} → Way es v a es' → (k : ℕ) → a ≡ answered k → Holds es' k v
names (known j h e q) k o = let s : j ≡ k = cc in rw (q, ← s) h
names {es} {es'} {v} {a} (added _ e q) k o = let s : length es ≡ k = cc in rw q (omega (arith, length_push es v), get_or_push es v [] k s)
names (refused _ _ _ e q) k o = cc

-- whether v is an entry, as the first appearances test it
listed_held : (es : List Bytes) (v : Bytes) (k : ℕ) → Holds es k v → listed es v ≡ true
listed_held es v k (lt, q) = list_any_at (λ e. bytes_eq e v) es k [] lt ((bytes_eq-Decides _ v).1 q)

listed_absent : (es : List Bytes) (v : Bytes) → Absent es v → listed es v ≡ false
listed_absent es v none = list_any_none (λ e. bytes_eq e v) es (All-from_get_or (λ e. bytes_eq e v ≡ false) es [] (λ k lt. false_from_ne_true _ (λ t. none k (lt, (bytes_eq-Decides _ v).0 t))))

-- the first appearances with one more value, where the entries `es` are those before it
stays_first : {es es' : List Bytes} {v : Bytes} {a : Told ℕ} → Way es v a es' → (vs : List Bytes) → es ≡ first_appearances vs → es' ≡ first_appearances (vs ++ if_answered a v)
stays_first {es} {es'} {v} {a} (known k h e q) vs first = rw (e, q, firsts_push, ← first, listed_held es v k h) (sym (append-nil es))
stays_first {es} {es'} {v} {a} (added none e q) vs first = rw (e, q, firsts_push, ← first, listed_absent es v none) refl
stays_first {es} {es'} {v} {a} (refused n l p e q) vs first = rw (e, append-nil) (q ∙ first)

run_extends : {st : Store} {es es' : List Bytes} {cs : List Call} → Runs st es cs es' → (k : ℕ) (w : Bytes) → Holds es k w → Holds es' k w
run_extends stop k w h = h
run_extends (then s r) k w h = run_extends r k w (extends (way s) k w h)

run_distinct : {st : Store} {es es' : List Bytes} {cs : List Call} → Runs st es cs es' → Distinct es → Distinct es'
run_distinct stop d = d
run_distinct (then s r) d = run_distinct r (stays_distinct (way s) d)

run_keys : {st : Store} {es es' : List Bytes} {cs : List Call} → Runs st es cs es' → All (NamesItsValue es') cs
run_keys {st} {es} {es'} stop = All-nil (NamesItsValue es')
run_keys {st} {es} {es'} (then {c} {cs} s r) = All-cons (NamesItsValue es') c cs (λ k o. run_extends r k c.value (names (way s) k o)) (run_keys r)

run_firsts : {st : Store} {es es' : List Bytes} {cs : List Call} → Runs st es cs es' → (vs : List Bytes) → es ≡ first_appearances vs → es' ≡ first_appearances (vs ++ accepted cs)
run_firsts stop vs first = rw append-nil first
run_firsts (then {c} {cs} s r) vs first =
    let one = if_answered c.answer c.value in
    rw (← append_assoc vs one (accepted cs)) (run_firsts r (vs ++ one) (stays_first (way s) vs first))

-- a question at these entries has one call and one list of entries after it
abbrev outcome : Store → List Bytes → Ask → Call × List Bytes
outcome st es a = (record { value = a.value; place = a.place; answer = interned st es a.value a.place }, entries_after st es a.value a.place)

step_outcome : {st : Store} {es es' : List Bytes} {c : Call} → Step st es c es' → (c, es') ≡ outcome st es (asked c)
step_outcome {st} {es} {es'} {c} s =
    ap (λ a. (record { value = c.value; place = c.place; answer = a }, es')) s.answers ∙ ap (λ x. ((outcome st es (asked c)).0, x)) s.entries

run_alike : {st : Store} {es es' : List Bytes} {cs : List Call} → Runs st es cs es' → {fs fs' : List Bytes} {ds : List Call} → Runs st fs ds fs' → es ≡ fs → map asked cs ≡ map asked ds → (cs ≡ ds) × (es' ≡ fs')
run_alike stop stop e q = (refl, e)
run_alike stop (then t u) e q = cc
run_alike (then s r) stop e q = cc
run_alike {st} {es} (then {c} {cs} s r) {fs} (then {c = d} {cs = ds} t u) e q =
    let head : asked c ≡ asked d = cc in
    let tail : map asked cs ≡ map asked ds = cc in
    let one = step_outcome s ∙ ap (outcome st es) head ∙ ap (λ x. outcome st x (asked d)) e ∙ sym (step_outcome t) in
    let rest = run_alike r u (ap (λ x. x.1) one) tail in
    let call : c ≡ d = ap (λ x. x.0) one in
    (cc (call, rest.0), rest.1)

pub every_run : (st : Store) → EveryRun st
every_run st =
    record {
      firsts = λ cs es r. run_firsts r [] refl;
      distinct = λ cs es r. run_distinct r (λ i k lt l. omega arith);
      keys = λ cs es r. run_keys r;
      alike = λ cs ds es fs r t q. run_alike r t refl q;
    }
