-- One more entry in a plain store: its form was written behind the bytes in use, and an element of the table names it.
use Rattle.std.proofs.Common.{◌≡◌, ℕ, ◌+◌, ◌-◌, ◌<◌, ◌≤◌, true, List, [], ◌∷◌, ◌++◌, map, length, take, drop, set, sum_by, refl, sym, ap, ◌∙◌, subst, arith}
use Rattle.std.specs.List.{All}
use Rattle.std.proofs.lemmas.List.{append_assoc, length-append, length-set, length-take-le, take-append-drop, take-take, take_at, drop_at, drop-take, take_more_set, map_push, flat_map_more}
use Rattle.std.proofs.lemmas.List.Elements.{All-head, All-tail, All-push, All-weaker}
use Rattle.page_format.specs.Plain.{Bytes, plain_head, plain_form, plain_page}
use Rattle.page_format.specs.Writes.{Wrote}
use Rattle.page_format.specs.declared.column.Column.{Column}
use Rattle.interner.specs.Layouts.{plain_suits, plain_need, standing, stored, Laid}
use Rattle.interner.specs.Laying.{used_is}
use Rattle.interner.specs.declared.plain.Entry.{Entry}

-- an entry within the bytes in use follows from these
standing_is : (bytes : Bytes) (e : Entry) (used : ℕ) → e.start + e.len ≤ used → standing bytes e ≡ drop e.start (take (e.start + e.len) (take used bytes))
standing_is bytes e used le = sym (drop-take e.start e.len bytes) ∙ ap (drop e.start) (sym (take-take (e.start + e.len) used bytes le))

-- so do entries
same_stored : (bytes bytes' : Bytes) (es : List Entry) (used : ℕ) → All (λ e. e.start + e.len ≤ used) es → take used bytes ≡ take used bytes' → map (standing bytes) es ≡ map (standing bytes') es
same_stored bytes bytes' [] used inside same = refl
same_stored bytes bytes' (e ∷ es) used inside same =
    let within = λ (e : Entry). e.start + e.len ≤ used in
    let le = All-head within e es inside in
    let one : standing bytes e ≡ standing bytes' e = standing_is bytes e used le ∙ ap (λ t. drop e.start (take (e.start + e.len) t)) same ∙ sym (standing_is bytes' e used le) in
    let rest = same_stored bytes bytes' es used (All-tail within e es inside) same in
    cc

-- what a store is after one more entry
pub record Grown (c : Column) (bytes v : Bytes) (es : List Bytes) (bytes' : Bytes) (table' : List Entry) (count' used' : ℕ) : Type 0 where
  pub stored_is : stored bytes' table' count' ≡ es ++ v ∷ []
  pub laid : Laid c bytes' table' count' used'
  pub memory_is : bytes' ≡ plain_page c (stored bytes' table' count') ++ drop (sum_by (plain_need c) (stored bytes' table' count')) bytes

module _ (c : Column) (bytes bytes' v : Bytes) (table : List Entry) (count used start : ℕ) (laid : Laid c bytes table count used)
    (room : count < length table) (long : length bytes' ≡ length bytes)
    (wrote : Wrote (plain_form c v) used bytes (start + length v) bytes') (starts : start ≡ used + length (plain_head c v)) where
  abbrev added : Entry
  added = record { start = start; len = length v }

  front_same : take used bytes ≡ take used bytes'
  front_same =
      sym (take_at (take used bytes) (plain_form c v) used (length-take-le used bytes laid.within))
      ∙ ap (take used) (sym wrote.front)
      ∙ take-take used (start + length v) bytes' (omega (arith, wrote.end_is))

  added_stands : standing bytes' added ≡ v
  added_stands =
      sym (drop-take start (length v) bytes')
      ∙ ap (drop start) (wrote.front ∙ sym (append_assoc (take used bytes) (plain_head c v) v))
      ∙ drop_at (take used bytes ++ plain_head c v) v start (omega (arith, length-append (take used bytes) (plain_head c v), length-take-le used bytes laid.within))

  stored_more : stored bytes' (set table count added) (count + 1) ≡ stored bytes table count ++ v ∷ []
  stored_more =
      ap (map (standing bytes')) (take_more_set table count added room)
      ∙ map_push (standing bytes') (take count table) added
      ∙ ap (λ x. stored bytes' table count ++ x ∷ []) added_stands
      ∙ ap (λ xs. xs ++ v ∷ []) (sym (same_stored bytes bytes' (take count table) used laid.inside front_same))

  laid_more : plain_suits c v ≡ true → Laid c bytes' (set table count added) (count + 1) (start + length v)
  laid_more suits =
      let within = λ (u : ℕ) (e : Entry). e.start + e.len ≤ u in
      let fit = λ (v : Bytes). plain_suits c v ≡ true in
      record {
        whole = length-set table count added ∙ laid.whole;
        few = omega (arith, laid.whole);
        within = omega (arith, wrote.fits, long);
        inside = rw (take_more_set table count added room) (All-push (within (start + length v)) (take count table) added (All-weaker (within used) (within (start + length v)) (λ e le. omega (arith, starts)) (take count table) laid.inside) (omega arith));
        suited = rw stored_more (All-push fit (stored bytes table count) v laid.suited suits);
        front = wrote.front ∙ ap (λ t. t ++ plain_form c v) laid.front ∙ flat_map_more (plain_form c) [] (stored bytes table count) v ∙ ap (plain_page c) (sym stored_more);
      }

  more : plain_suits c v ≡ true → Grown c bytes v (stored bytes table count) bytes' (set table count added) (count + 1) (start + length v)
  more suits =
      let laid' = laid_more suits in
      let used' = used_is laid' in
      let whole = take-append-drop (start + length v) bytes' in
      record { stored_is = stored_more; laid = laid'; memory_is = rw (← used', ← laid'.front, ← wrote.back) (sym whole) }

-- the same where the memory before and after and the element are known by equations
pub grown : (c : Column) (bytes lent out held v : Bytes) (table : List Entry) (e : Entry) (count used end : ℕ) → Laid c bytes table count used → count < length table → length out ≡ length bytes
    → lent ≡ bytes → Wrote (plain_form c v) used lent end out → held ≡ out → e ≡ record { start = end - length v; len = length v } → plain_suits c v ≡ true
    → Grown c bytes v (stored bytes table count) held (set table count e) (count + 1) end
grown c bytes lent out held v table e count used end laid room long is_lent wrote is_held is_e suits =
    let split = length-append (plain_head c v) v in
    let at : end ≡ end - length v + length v = omega (arith, wrote.end_is, split) in
    let w : Wrote (plain_form c v) used bytes (end - length v + length v) out = subst (λ n. Wrote (plain_form c v) used bytes n out) at (subst (λ t. Wrote (plain_form c v) used t end out) is_lent wrote) in
    let g = more c bytes out v table count used (end - length v) laid room long w (omega (arith, wrote.end_is, split)) suits in
    rw (is_held, is_e) (subst (λ n. Grown c bytes v (stored bytes table count) out (set table count (record { start = end - length v; len = length v })) (count + 1) n) (sym at) g)
