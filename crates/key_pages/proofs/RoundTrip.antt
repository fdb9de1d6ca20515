-- A page of the cut, read by the format, gives its keys back.
use Rattle.std.proofs.Common.{◌≡◌, ℕ, zero, suc, ◌+◌, ◌-◌, ◌*◌, ◌/◌, ◌%◌, ◌^◌, ◌<◌, ◌≤◌, List, [], ◌∷◌, ◌++◌, length, get_or, take, drop, replicate, Ok, sym, refl, ap, ◌∙◌, subst, ap₂, mod-eq_of_lt, mul_assoc, add-mul, mul-add, arith, length-append, pow_mono}
use native.Mathlib.Nat.{div-eq_of_lt, add-mul-mod_self_left, add-mul-div_left}
use lib.ListN.{length-replicate}
use Rattle.std.specs.List.{flat_map, AllByRecursion}
use Rattle.std.proofs.lemmas.List.{append-nil, append_assoc, take_at, drop_at, take_all, length_push}
use Rattle.std.proofs.lemmas.Nat.{pow-add, pow_pos}
use Rattle.std.proofs.lemmas.List.FromFn.{fill_by_all}
use Rattle.std.proofs.ByRecursion.{All-get_or, All-append, All-push}
use Rattle.page_format.specs.Bits.{varint, read_varint, le_bytes, le_number, packed_number, packed_bytes, packed_value, low_bits, bytes_for}
use Rattle.page_format.specs.Limits.{page_values, run_groups}
use Rattle.page_format.proofs.Endian.{length-le_bytes, le_append, le_low, le_reads}
use Rattle.page_format.proofs.Varints.{varint_reads_back, varint_last}
use Rattle.page_format.proofs.Packing.{packed_length, packed_below, packed_reads_back}
use Rattle.key_pages.proofs.Steps.{flat_push}
use Rattle.key_pages.proofs.Ruling.{rules_cut}
use Rattle.key_pages.specs.Back.{PageReadsBack}
use Rattle.key_pages.specs.Runs.{Run, repeat, packed, filled, cut, run_bytes, page}
use Rattle.key_pages.specs.Cuts.{Cuts, none, repeats as rule_repeats, packs as rule_packs, fills, stops, alike, unlike, flat, Mixed}
use Rattle.key_pages.specs.Meaning.{ReadRun, unpacked, run_length, run_values, Header, RunAt, a_repeat, a_packed, RunsOf, no_more, one_more, means, keys_of}

-- lists

-- each key fits the width
abbrev Small : ℕ → List ℕ → Type 0
Small w vs = AllByRecursion (λ v. v < 2 ^ w) vs

small_front : (w : ℕ) (xs ys : List ℕ) → Small w (xs ++ ys) → Small w xs
small_front w [] ys h = tt
small_front w (x ∷ xs) ys h = (h.0, small_front w xs ys h.1)

small_back : (w : ℕ) (xs ys : List ℕ) → Small w (xs ++ ys) → Small w ys
small_back w [] ys h = h
small_back w (x ∷ xs) ys h = small_back w xs ys h.1

small_replicate : (w n x : ℕ) → x < 2 ^ w → Small w (replicate n x)
small_replicate w zero x h = tt
small_replicate w (suc n) x h = (h, small_replicate w n x h)

small_filled : (w : ℕ) (p : List ℕ) → Small w p → Small w (filled p)
small_filled w p h = All-append (λ v. v < 2 ^ w) p (replicate (8 - length p) 0) h (small_replicate w (8 - length p) 0 (pow_pos w))

take-append : (n : ℕ) (xs ys : List ℕ) → take n (xs ++ ys) ≡ take n xs ++ take (n - length xs) ys
take-append n [] ys = let e : n - 0 ≡ n = omega arith in let t : take {A = ℕ} n [] ≡ [] = take_all n [] (omega arith) in rw (e, t) refl
take-append zero (x ∷ xs) ys = let e : 0 - suc (length xs) ≡ 0 = omega arith in rw e refl
take-append (suc n) (x ∷ xs) ys = let e : suc n - suc (length xs) ≡ n - length xs = omega arith in rw e (ap (λ t. x ∷ t) (take-append n xs ys))

-- groups

-- each group has eight keys
abbrev Eights : List (List ℕ) → Type 0
Eights gs = AllByRecursion (λ g. length g ≡ 8) gs

mixed_eights : (gs : List (List ℕ)) → Mixed gs → Eights gs
mixed_eights [] m = tt
mixed_eights (g ∷ gs) m = (m.0, mixed_eights gs m.2)

length-flat : (gs : List (List ℕ)) → Eights gs → length (flat gs) ≡ 8 * length gs
length-flat [] h = refl
length-flat (g ∷ gs) h = omega (arith, length-append g (flat gs), h.0, length-flat gs h.1)

low_same : (w : ℕ) (vs : List ℕ) → Small w vs → low_bits w vs ≡ vs
low_same w [] h = refl
low_same w (v ∷ vs) h = ap₂ (λ a b. a ∷ b) (mod-eq_of_lt h.0) (low_same w vs h.1)

packed_append : (w : ℕ) (xs ys : List ℕ) → packed_number w (xs ++ ys) ≡ packed_number w xs + 2 ^ (length xs * w) * packed_number w ys
unfolding packed_number
packed_append w [] ys = let e : 0 * w ≡ 0 = omega arith in rw e (omega arith)
packed_append w (x ∷ xs) ys =
    let e : suc (length xs) * w ≡ w + length xs * w = omega (arith, add-mul 1 (length xs) w) in
    rw (e, pow-add 2 w (length xs * w), packed_append w xs ys)
    (omega (arith, mul-add (2 ^ w) (packed_number w xs) (2 ^ (length xs * w) * packed_number w ys), mul_assoc (2 ^ w) (2 ^ (length xs * w)) (packed_number w ys)))

-- bytes behind whole bytes
le_join : (n m x y : ℕ) → x < 2 ^ (8 * n) → le_bytes (n + m) (x + 2 ^ (8 * n) * y) ≡ le_bytes n x ++ le_bytes m y
le_join n m x y h =
    let lo : (x + 2 ^ (8 * n) * y) % 2 ^ (8 * n) ≡ x = add-mul-mod_self_left x (2 ^ (8 * n)) y ∙ mod-eq_of_lt h in
    let hi : (x + 2 ^ (8 * n) * y) / 2 ^ (8 * n) ≡ y = add-mul-div_left x y (pow_pos (8 * n)) ∙ ap (λ t. t + y) (div-eq_of_lt h) ∙ omega arith in
    le_append n m (x + 2 ^ (8 * n) * y) ∙ ap₂ (λ a b. a ++ b) (sym (le_low n (x + 2 ^ (8 * n) * y)) ∙ ap (le_bytes n) lo) (ap (le_bytes m) hi)

group_joins : (w : ℕ) (g vs : List ℕ) → length g ≡ 8 → Small w g → packed_bytes w g ++ packed_bytes w vs ≡ packed_bytes w (g ++ vs)
unfolding packed_bytes
group_joins w g vs eight small =
    let a : bytes_for (length g * w) ≡ w = omega (arith, ap (λ t. t * w) eight) in
    let e : length g * w ≡ 8 * w = ap (λ t. t * w) eight in
    let b : bytes_for (length (g ++ vs) * w) ≡ w + bytes_for (length vs * w) = omega (arith, ap (λ t. t * w) (length-append g vs), add-mul (length g) (length vs) w) in
    let s : packed_number w g < 2 ^ (8 * w) = subst (λ t. packed_number w t < 2 ^ (8 * w)) (low_same w g small) (subst (λ t. packed_number w (low_bits w g) < 2 ^ t) e (packed_below w g)) in
    let n : packed_number w (g ++ vs) ≡ packed_number w g + 2 ^ (8 * w) * packed_number w vs = packed_append w g vs ∙ ap (λ t. packed_number w g + 2 ^ t * packed_number w vs) e in
    rw (a, b, n) (sym (le_join w (bytes_for (length vs * w)) (packed_number w g) (packed_number w vs) s))

-- groups one after another are one packed row
groups_join : (w : ℕ) (gs : List (List ℕ)) → Eights gs → Small w (flat gs) → flat_map (packed_bytes w) gs ≡ packed_bytes w (flat gs)
groups_join w [] h small = unfold packed_bytes le_bytes in (let e : bytes_for (0 * w) ≡ 0 = omega arith in rw e refl)
groups_join w (g ∷ gs) h small =
    ap (λ t. packed_bytes w g ++ t) (groups_join w gs h.1 (small_back w g (flat gs) small)) ∙ group_joins w g (flat gs) h.0 (small_front w g (flat gs) small)

row_reads : (w : ℕ) (vs : List ℕ) → Small w vs → unpacked w (packed_bytes w vs) (length vs) ≡ vs
unfolding unpacked
row_reads w vs small = sym (fill_by_all (packed_value w (packed_bytes w vs)) vs (length vs) 0 refl (λ k h.
    let f : packed_value w (packed_bytes w vs) k ≡ get_or vs k 0 % 2 ^ w = subst (λ t. packed_value w (packed_bytes w t) k ≡ get_or vs k 0 % 2 ^ w) (low_same w vs small) (packed_reads_back w vs k h) in
    sym (f ∙ mod-eq_of_lt (All-get_or (λ v. v < 2 ^ w) vs k 0 h small))))

-- runs

-- bs, from a place on, stand for runs whose first keys are ks
pub record ReadsAs (w place : ℕ) (ks bs : List ℕ) : Type 0 where
  pub runs : List ReadRun
  pub are : RunsOf w place (length ks) bs runs
  pub keys : keys_of w (length ks) runs ≡ ks

reads_none : (w place : ℕ) → ReadsAs w place [] []
reads_none w place = record { runs = []; are = no_more; keys = refl }

-- a run of the values F in front, of which the first may be all that is owed
reads_more : (w place size : ℕ) (run : ReadRun) (F ks rest enc bs : List ℕ) → 0 < length ks → RunAt w place (length ks) (enc ++ bs) run size → length enc ≡ size
    → run_values w run ≡ F → run_length run ≡ length F → length rest ≡ length ks - length F → take (length ks) (F ++ rest) ≡ ks
    → ReadsAs w (place + size) rest bs → ReadsAs w place ks (enc ++ bs)
reads_more w place size run F ks rest enc bs some at long values many left front r =
    let d : drop size (enc ++ bs) ≡ bs = drop_at enc bs size long in
    let l : length ks - run_length run ≡ length rest = ap (λ t. length ks - t) many ∙ sym left in
    record {
      runs = run ∷ r.runs;
      are = one_more some at (subst (λ t. RunsOf w (place + size) (length ks - run_length run) t r.runs) (sym d) (subst (λ t. RunsOf w (place + size) t bs r.runs) (sym l) r.are));
      keys = ap (λ t. take (length ks) (t ++ flat_map (run_values w) r.runs)) values
          ∙ take-append (length ks) F (flat_map (run_values w) r.runs)
          ∙ ap (λ t. take (length ks) F ++ t) (ap (λ t. take t (flat_map (run_values w) r.runs)) (sym left) ∙ r.keys ∙ sym (take_all (length ks - length F) rest (omega arith)))
          ∙ sym (take-append (length ks) F rest)
          ∙ front;
    }

repeat_reads : (w place r k : ℕ) (ks rest bs : List ℕ) → 0 < r → 2 * r < 2 ^ 32 → k < 2 ^ w → ks ≡ replicate r k ++ rest
    → ReadsAs w (place + length (run_bytes w (repeat r k))) rest bs → ReadsAs w place ks (run_bytes w (repeat r k) ++ bs)
unfolding run_bytes run_values
repeat_reads w place r k ks rest bs pos few small is next =
    let lb : length (le_bytes (bytes_for w) k) ≡ bytes_for w = length-le_bytes (bytes_for w) k in
    let le : length (varint (2 * r) ++ le_bytes (bytes_for w) k) ≡ length (varint (2 * r)) + bytes_for w = length-append (varint (2 * r)) (le_bytes (bytes_for w) k) ∙ ap (λ t. length (varint (2 * r)) + t) lb in
    let jn : (varint (2 * r) ++ le_bytes (bytes_for w) k) ++ bs ≡ varint (2 * r) ++ (le_bytes (bytes_for w) k ++ bs) = append_assoc (varint (2 * r)) (le_bytes (bytes_for w) k) bs in
    let hd : Header ((varint (2 * r) ++ le_bytes (bytes_for w) k) ++ bs) (2 * r) (length (varint (2 * r))) = ap (read_varint 32) jn ∙ varint_reads_back 32 (2 * r) (le_bytes (bytes_for w) k ++ bs) (omega arith) few in
    let dr : drop (length (varint (2 * r))) ((varint (2 * r) ++ le_bytes (bytes_for w) k) ++ bs) ≡ le_bytes (bytes_for w) k ++ bs = ap (drop (length (varint (2 * r)))) jn ∙ drop_at (varint (2 * r)) (le_bytes (bytes_for w) k ++ bs) _ refl in
    let vl : take (bytes_for w) (drop (length (varint (2 * r))) ((varint (2 * r) ++ le_bytes (bytes_for w) k) ++ bs)) ≡ le_bytes (bytes_for w) k = ap (take (bytes_for w)) dr ∙ take_at (le_bytes (bytes_for w) k) bs _ lb in
    let lk : length ks ≡ r + length rest = ap length is ∙ length-append (replicate r k) rest ∙ ap (λ t. t + length rest) (length-replicate r k) in
    let en : length ((varint (2 * r) ++ le_bytes (bytes_for w) k) ++ bs) ≡ length (varint (2 * r)) + bytes_for w + length bs = length-append (varint (2 * r) ++ le_bytes (bytes_for w) k) bs ∙ ap (λ t. t + length bs) le in
    let e8 : w ≤ 8 * bytes_for w = omega arith in
    let p8 : 2 ^ w ≤ 2 ^ (8 * bytes_for w) = pow_mono e8 in
    let kn : le_number (take (bytes_for w) (drop (length (varint (2 * r))) ((varint (2 * r) ++ le_bytes (bytes_for w) k) ++ bs))) ≡ k = ap le_number vl ∙ le_reads (bytes_for w) k (omega arith) in
    reads_more w place (length (varint (2 * r)) + bytes_for w) _ (replicate r k) ks rest (varint (2 * r) ++ le_bytes (bytes_for w) k) bs (omega arith)
    (a_repeat r (length (varint (2 * r))) hd pos (omega arith) (omega arith)) le
    (ap (replicate r) kn) (sym (length-replicate r k)) (omega (arith, length-replicate r k))
    (ap (take (length ks)) (sym is) ∙ take_all (length ks) ks (omega arith))
    (subst (λ t. ReadsAs w (place + t) rest bs) le next)

packed_reads : (w place : ℕ) (gs : List (List ℕ)) (ks rest bs : List ℕ) → Eights gs → 0 < length gs → length gs ≤ run_groups → Small w (flat gs)
    → 0 < length ks → length rest ≡ length ks - 8 * length gs → take (length ks) (flat gs ++ rest) ≡ ks
    → ReadsAs w (place + length (run_bytes w (packed gs))) rest bs → ReadsAs w place ks (run_bytes w (packed gs) ++ bs)
unfolding run_bytes run_values
packed_reads w place gs ks rest bs eight pos few small some left front next =
    let bj : flat_map (packed_bytes w) gs ≡ packed_bytes w (flat gs) = groups_join w gs eight small in
    let lf : length (flat gs) ≡ 8 * length gs = length-flat gs eight in
    let m8 : length (flat gs) * w ≡ 8 * (length gs * w) = ap (λ t. t * w) lf ∙ mul_assoc 8 (length gs) w in
    let lb : length (flat_map (packed_bytes w) gs) ≡ length gs * w = ap length bj ∙ packed_length w (flat gs) ∙ omega arith in
    let vl : varint (2 * length gs + 1) ≡ (2 * length gs + 1) ∷ [] = varint_last (2 * length gs + 1) (omega arith) in
    let vn : length (varint (2 * length gs + 1)) ≡ 1 = ap length vl in
    let en : ((2 * length gs + 1) ∷ flat_map (packed_bytes w) gs) ++ bs ≡ varint (2 * length gs + 1) ++ (flat_map (packed_bytes w) gs ++ bs) = ap (λ t. t ++ (flat_map (packed_bytes w) gs ++ bs)) (sym vl) in
    let hd : Header (((2 * length gs + 1) ∷ flat_map (packed_bytes w) gs) ++ bs) (2 * length gs + 1) 1 =
    ap (read_varint 32) en ∙ varint_reads_back 32 (2 * length gs + 1) (flat_map (packed_bytes w) gs ++ bs) (omega arith) (omega arith) ∙ ap (λ t. Ok (record { value = 2 * length gs + 1; len = t })) vn in
    let bt : take (length gs * w) (flat_map (packed_bytes w) gs ++ bs) ≡ packed_bytes w (flat gs) = take_at (flat_map (packed_bytes w) gs) bs _ lb ∙ bj in
    let un : unpacked w (take (length gs * w) (flat_map (packed_bytes w) gs ++ bs)) (8 * length gs) ≡ flat gs = ap₂ (λ a b. unpacked w a b) bt (sym lf) ∙ row_reads w (flat gs) small in
    reads_more w place (1 + length gs * w) _ (flat gs) ks rest ((2 * length gs + 1) ∷ flat_map (packed_bytes w) gs) bs some
    (a_packed (length gs) 1 hd pos (omega arith) (omega (arith, length-append (flat_map (packed_bytes w) gs) bs))) (omega arith)
    un (sym lf) (omega arith) front
    (subst (λ t. ReadsAs w (place + t) rest bs) (omega arith) next)

-- the cut

-- a repeated key is one of the keys
repeated : (w r k : ℕ) (rest : List ℕ) → 0 < r → Small w (replicate r k ++ rest) → k < 2 ^ w
repeated w zero k rest pos h = absurd (omega arith)
repeated w (suc r) k rest pos h = h.0

length-filled : (p : List ℕ) → length p < 8 → length (filled p) ≡ 8
length-filled p h = length-append p (replicate (8 - length p) 0) ∙ ap (λ t. length p + t) (length-replicate (8 - length p) 0) ∙ omega arith

-- a packed run that is the last, with its part group filled
last_reads : (w place : ℕ) (gs : List (List ℕ)) (p ks : List ℕ) → Eights gs → length gs < run_groups → Small w ks → 0 < length p → length p < 8 → ks ≡ flat gs ++ p
    → ReadsAs w place ks (flat_map (run_bytes w) (packed (gs ++ filled p ∷ []) ∷ []))
last_reads w place gs p ks eight few small pos short is =
    let k : Small w (flat gs ++ p) = subst (Small w) is small in
    let lg : length (gs ++ filled p ∷ []) ≡ length gs + 1 = length_push gs (filled p) in
    let lf : length (flat gs) ≡ 8 * length gs = length-flat gs eight in
    let lk : length ks ≡ length (flat gs) + length p = ap length is ∙ length-append (flat gs) p in
    let ff : flat (gs ++ filled p ∷ []) ++ [] ≡ ks ++ replicate (8 - length p) 0 =
    append-nil _ ∙ flat_push gs (filled p) ∙ sym (append_assoc (flat gs) p (replicate (8 - length p) 0)) ∙ ap (λ t. t ++ replicate (8 - length p) 0) (sym is) in
    packed_reads w place (gs ++ filled p ∷ []) ks [] [] (All-push (λ g. length g ≡ 8) gs (filled p) eight (length-filled p short)) (omega arith) (omega arith)
    (subst (Small w) (sym (flat_push gs (filled p))) (All-append (λ v. v < 2 ^ w) (flat gs) (filled p) (small_front w (flat gs) p k) (small_filled w p (small_back w (flat gs) p k))))
    (omega arith) (omega arith) (ap (take (length ks)) ff ∙ take_at ks (replicate (8 - length p) 0) (length ks) refl) (reads_none w _)

cuts_read : (w : ℕ) (ks : List ℕ) (rs : List Run) → Cuts ks rs → length ks ≤ page_values → Small w ks → (place : ℕ) → ReadsAs w place ks (flat_map (run_bytes w) rs)
cuts_read w ks rs none few small place = reads_none w place
cuts_read w ks rs (rule_repeats {rest = rest} {rs = qs} r k is long first next) few small place =
    let s : Small w (replicate r k ++ rest) = subst (Small w) is small in
    let l : length ks ≡ r + length rest = ap length is ∙ length-append (replicate r k) rest ∙ ap (λ t. t + length rest) (length-replicate r k) in
    repeat_reads w place r k ks rest (flat_map (run_bytes w) qs) (omega arith) (omega arith) (repeated w r k rest (omega arith) s) is
    (cuts_read w rest qs next (omega arith) (small_back w (replicate r k) rest s) (place + length (run_bytes w (repeat r k))))
cuts_read w ks rs (rule_packs {rest = rest} {rs = qs} gs is mixed pos most stop next) few small place =
    let s : Small w (flat gs ++ rest) = subst (Small w) is small in
    let e = mixed_eights gs mixed in
    let l : length ks ≡ length (flat gs) + length rest = ap length is ∙ length-append (flat gs) rest in
    let lf = length-flat gs e in
    packed_reads w place gs ks rest (flat_map (run_bytes w) qs) e pos most (small_front w (flat gs) rest s) (omega arith) (omega arith)
    (ap (take (length ks)) (sym is) ∙ take_all (length ks) ks (omega arith))
    (cuts_read w rest qs next (omega arith) (small_back w (flat gs) rest s) (place + length (run_bytes w (packed gs))))
cuts_read w ks rs (fills gs p is mixed pos under some short) few small place = last_reads w place gs p ks (mixed_eights gs mixed) under small some short is
cuts_read w ks rs (stops gs is mixed pos under) few small place =
    let e = mixed_eights gs mixed in
    let s : Small w (flat gs ++ []) = subst (Small w) is small in
    let l : length ks ≡ length (flat gs) + 0 = ap length is ∙ length-append (flat gs) [] in
    let lf = length-flat gs e in
    packed_reads w place gs ks [] [] e pos (omega arith) (small_front w (flat gs) [] s) (omega arith) (omega arith)
    (ap (take (length ks)) (sym is) ∙ take_all (length ks) ks (omega arith)) (reads_none w _)
cuts_read w ks rs (alike n k is pos short) few small place =
    let i : ks ≡ replicate n k ++ [] = is ∙ sym (append-nil (replicate n k)) in
    let s : Small w (replicate n k ++ []) = subst (Small w) i small in
    repeat_reads w place n k ks [] [] pos (omega arith) (repeated w n k [] pos s) i (reads_none w _)
cuts_read w ks rs (unlike short mixed) few small place = last_reads w place [] ks ks tt (omega arith) small (omega arith) short refl

pub page_reads_back : PageReadsBack
unfolding page
page_reads_back w ks narrow few small =
    let r = cuts_read w ks (cut ks) (rules_cut ks) few small 1 in
    (r.runs, means narrow r.are, r.keys)
