-- The first appearances in a list with one more value at its end.
use Rattle.std.proofs.Common.{◌≡◌, Bool, cond, not, ◌||◌, List, [], ◌∷◌, ◌++◌, filter, sym, refl, ap, ◌∙◌, arith}
use Rattle.std.specs.List.{list_any}
use Rattle.std.specs.Str.{bytes_eq}
use Rattle.std.proofs.lemmas.List.Elements.{filter-append}
use Rattle.std.proofs.lemmas.Map.Views.{any-filter_same}
use Rattle.std.proofs.lemmas.Slice.Eq.{bytes_eq-Decides}
use Rattle.page_format.specs.Plain.{Bytes}
use Rattle.interner.specs.Interning.{first_appearances}

-- v is in the list
abbrev pub listed : List Bytes → Bytes → Bool
listed es v = list_any (λ e. bytes_eq e v) es

abbrev others : Bytes → List Bytes → List Bytes
others x ys = filter (λ w. not (bytes_eq x w)) ys

-- the others are the list without x
listed_others : (x v : Bytes) (ys : List Bytes) → listed (x ∷ others x ys) v ≡ (bytes_eq x v || listed ys v)
listed_others x v ys =
    let rest = any-filter_same (λ e. bytes_eq e v) (λ w. not (bytes_eq x w)) (not (bytes_eq x v)) (λ k t. ap (λ w. not (bytes_eq x w)) ((bytes_eq-Decides k v).0 t)) ys in
    grind arith

others_cond : (x v : Bytes) (b : Bool) → others x (cond b [] (v ∷ [])) ≡ cond (bytes_eq x v || b) [] (v ∷ [])
others_cond x v b = grind arith

pub firsts_push : (xs : List Bytes) (v : Bytes) → first_appearances (xs ++ v ∷ []) ≡ first_appearances xs ++ cond (listed (first_appearances xs) v) [] (v ∷ [])
firsts_push [] v = refl
firsts_push (x ∷ xs) v =
    let fs = first_appearances xs in
    let more = cond (listed fs v) [] (v ∷ []) in
    ap (λ ys. x ∷ ys) (ap (others x) (firsts_push xs v) ∙ filter-append (λ w. not (bytes_eq x w)) fs more ∙ ap (λ ys. others x fs ++ ys) (others_cond x v (listed fs v) ∙ ap (λ b. cond b [] (v ∷ [])) (sym (listed_others x v fs))))
