-- How the code's steps carry what it stands for.
use Rattle.std.proofs.Common.{◌≡◌, ℕ, ◌+◌, ◌*◌, ◌<◌, ◌≤◌, List, [], ◌∷◌, ◌++◌, length, set, Some, None, Option, sym, refl, ap, ◌∙◌, subst, arith, length-append, length-set}
use lib.Seq.{take-set-lt}
use Rattle.std.specs.List.{flat_map}
use Rattle.std.proofs.lemmas.List.{append_assoc, append-nil, length-take-le, length_push, drop-set-lt, set_at}
use Rattle.std.proofs.lemmas.Grind.{flat_map-append}
use Rattle.std.proofs.lemmas.Option.{MatchOption-at_some, MatchOption-at_none}
use Rattle.page_format.specs.declared.bit_writer.BitWriter.{BitWriter}
use Rattle.page_format.specs.Bits.{packed_bytes}
use Rattle.page_format.specs.Writes.{Appends, Sets, Rewrites}
use Rattle.page_format.proofs.Endian.{drop-later}
use Rattle.page_format.proofs.Writing.{appends_length}
use Rattle.key_pages.specs.Runs.{Run, packed, run_bytes}
use Rattle.key_pages.specs.Machine.{Writer, closed}
use Rattle.key_pages.specs.Held.{bytes, front_of, Extends, Packs, Stands}
use Rattle.key_pages.specs.declared.encoder.OpenRun.{OpenRun}
use Rattle.key_pages.specs.declared.encoder.RleEncoder.{RleEncoder}

-- writes from the writer's place on

pub extends_none : (out : BitWriter) → Extends out out
extends_none out = record { same_buffer = refl; long = refl; further = omega arith; back = refl }

pub extends_both : {out mid out' : BitWriter} → Extends out mid → Extends mid out' → Extends out out'
extends_both {out} {mid} {out'} a b = record {
  same_buffer = b.same_buffer ∙ a.same_buffer;
  long = b.long ∙ a.long;
  further = omega arith;
  back = b.back ∙ drop-later mid.bytes.now out.bytes.now mid.at out'.at b.further a.back;
}

pub extends_appends : {bs : List ℕ} {out out' : BitWriter} → Appends bs out out' → Extends out out'
extends_appends a = record { same_buffer = a.same_buffer; long = appends_length a; further = omega (arith, a.wrote.end_is); back = a.wrote.back }

pub extends_sets : (place byte : ℕ) {out out' : BitWriter} → Sets place byte out out' → place < out.at → Extends out out'
extends_sets place byte {out} {out'} s h = record {
  same_buffer = s.same_buffer;
  long = ap length s.bytes_are ∙ length-set out.bytes.now place byte;
  further = omega (arith, s.same_place);
  back = rw s.bytes_are (drop-set-lt out'.at out.bytes.now place byte (omega (arith, s.same_place)));
}

-- runs

pub bytes_push : (w : ℕ) (rs : List Run) (r : Run) → bytes w (rs ++ r ∷ []) ≡ bytes w rs ++ run_bytes w r
bytes_push w rs r = ap (λ t. w ∷ t) (flat_map-append (run_bytes w) rs (r ∷ [])) ∙ rw (append-nil (run_bytes w r)) refl

pub closed_push : (rs : List Run) (gs : List (List ℕ)) (p : List ℕ) → closed rs (gs ++ p ∷ []) ≡ rs ++ packed (gs ++ p ∷ []) ∷ []
closed_push rs [] p = refl
closed_push rs (g ∷ gs) p = refl

pub sets_done : (place byte : ℕ) (out : BitWriter) (r : Option (Unit {0})) (u : Unit {0}) (out' : BitWriter) → Rewrites place byte out r out' → r ≡ Some u → Sets place byte out out'
sets_done place byte out r u out' a e = (subst (λ t. Rewrites place byte out t out') e a).1

-- a group more
pub packs_more : (w : ℕ) (front : List ℕ) (gs : List (List ℕ)) (g : List ℕ) (run : OpenRun) {out mid out' : BitWriter} → Packs w front gs run out → run.header < out.at
    → Sets run.header (2 * (run.groups + 1) + 1) out mid → Appends (packed_bytes w g) mid out'
    → Packs w front (gs ++ g ∷ []) (record { header = run.header; groups = run.groups + 1 }) out'
unfolding run_bytes
packs_more w front gs g run {out} {mid} {out'} p h s a =
    let v = 2 * (run.groups + 1) + 1 in
    let body = flat_map (packed_bytes w) gs in
    let set_is : front_of mid ≡ front ++ v ∷ body =
    rw (s.same_place, s.bytes_are) (take-set-lt out.at out.bytes.now run.header v h ∙ ap (λ t. set t run.header v) p.bytes_are ∙ set_at front _ body v run.header (sym p.heads)) in
    record {
      counted = omega (arith, p.counted, length_push gs g);
      heads = p.heads;
      bytes_are = a.wrote.front ∙ ap (λ t. t ++ packed_bytes w g) set_is ∙ append_assoc front _ _
          ∙ rw (p.counted, length_push gs g, flat_map-append (packed_bytes w) gs (g ∷ []), append-nil (packed_bytes w g)) refl;
    }

-- its first byte stands before the writer's place
pub packs_behind : {w : ℕ} {front : List ℕ} {gs : List (List ℕ)} {run : OpenRun} {out : BitWriter} → Packs w front gs run out → run.header < out.at
unfolding run_bytes
packs_behind {w} {front} {gs} {run} {out} p = omega (arith, p.heads, ap length p.bytes_are, length-append front (run_bytes w (packed gs)), length-take-le out.at out.bytes.now out.within)

pub closed_bytes : (w : ℕ) (rs : List Run) (gs : List (List ℕ)) → 0 < length gs → bytes w (closed rs gs) ≡ bytes w rs ++ run_bytes w (packed gs)
closed_bytes w rs [] h = absurd (omega arith)
closed_bytes w rs (g ∷ gs) h = bytes_push w rs (packed (g ∷ gs))

-- how much longer a group makes the page
pub group_longer : (w : ℕ) (rs : List Run) (gs : List (List ℕ)) (p : List ℕ)
    → length (bytes w (closed rs (gs ++ p ∷ []))) ≡ length (bytes w rs) + length (run_bytes w (packed gs)) + length (packed_bytes w p)
unfolding run_bytes
group_longer w rs gs p = ap length (closed_bytes w rs (gs ++ p ∷ []) (omega (arith, length_push gs p)))
    ∙ rw (flat_map-append (packed_bytes w) gs (p ∷ []), append-nil (packed_bytes w p))
    (omega (arith, length-append (bytes w rs) ((2 * length (gs ++ p ∷ []) + 1) ∷ (flat_map (packed_bytes w) gs ++ packed_bytes w p)), length-append (flat_map (packed_bytes w) gs) (packed_bytes w p)))

-- a group more makes the page no shorter
pub packing_longer : (w : ℕ) (rs : List Run) (gs : List (List ℕ)) (p : List ℕ) → length (bytes w (closed rs gs)) ≤ length (bytes w (closed rs (gs ++ p ∷ [])))
packing_longer w rs [] p = omega (arith, group_longer w rs [] p)
packing_longer w rs (g ∷ gs) p =
    omega (arith, group_longer w rs (g ∷ gs) p, ap length (closed_bytes w rs (g ∷ gs) (omega arith)), length-append (bytes w rs) (run_bytes w (packed (g ∷ gs))))

pub at_is : {m : Writer} {e : RleEncoder} {out : BitWriter} → Stands m e out → out.at ≡ length (bytes e.width.bits (closed m.runs m.groups))
at_is {m} {e} {out} h = sym (length-take-le out.at out.bytes.now out.within) ∙ ap length h.front

-- the page with its open packed run, or with one that was begun
pub opened : {m : Writer} {e : RleEncoder} {out : BitWriter} (run : OpenRun) → Stands m e out → e.«open» ≡ Some run → Packs e.width.bits (bytes e.width.bits m.runs) m.groups run out
opened {m} {e} run h is =
    let o = MatchOption-at_some _ _ _ is h.open_is in
    record { counted = o.1; heads = o.2; bytes_are = h.front ∙ closed_bytes e.width.bits m.runs m.groups o.0 }

pub begun : {m : Writer} {e : RleEncoder} {out mid : BitWriter} → Stands m e out → e.«open» ≡ None → Appends (1 ∷ []) out mid
    → Packs e.width.bits (bytes e.width.bits m.runs) m.groups (record { header = out.at; groups = 0 }) mid
unfolding run_bytes
begun {m} {e} h is a =
    let z : m.groups ≡ [] = MatchOption-at_none _ _ is h.open_is in
    let at = at_is h in
    record { counted = rw z refl; heads = at ∙ rw z refl; bytes_are = a.wrote.front ∙ rw (h.front, z) refl }
