-- Bytes written one behind another.
use Rattle.std.proofs.Common.{◌≡◌, ℕ, ◌+◌, ◌-◌, ◌≤◌, true, List, [], ◌++◌, length, take, drop, is_some, Some, None, Option, refl, sym, ap, ◌∙◌, subst, arith, length-append}
use borrow.Rule.Slice.PartMut.{put_mid}
use Rattle.std.proofs.lemmas.List.{append_assoc, append-nil, length-take-le, length-drop, take-append-drop}
use Rattle.std.proofs.lemmas.Slice.{take-put_mid, drop-put_mid}
use Rattle.page_format.specs.declared.bit_writer.BitWriter.{BitWriter}
use Rattle.page_format.specs.Writes.{Wrote, Appends, AppendsIf}
use Rattle.page_format.proofs.Endian.{drop-later}

-- a write leaves the buffer as long as it was
pub written_length : (bs : List ℕ) (at : ℕ) (out : List ℕ) (end : ℕ) (out' : List ℕ) → at ≤ length out → Wrote bs at out end out' → length out' ≡ length out
written_length bs at out end out' le w =
    let f : length (take end out') ≡ at + length bs = ap length w.front ∙ length-append (take at out) bs ∙ ap (λ n. n + length bs) (length-take-le at out le) in
    let b : length (drop end out') ≡ length out - end = ap length w.back ∙ length-drop end out in
    omega (arith, w.end_is, w.fits, length-append (take end out') (drop end out'), ap length (take-append-drop end out'))

-- one write behind another
pub wrote_both : (xs bs : List ℕ) (at : ℕ) (out : List ℕ) (k : ℕ) (mid : List ℕ) (end : ℕ) (out' : List ℕ)
    → Wrote xs at out k mid → Wrote bs k mid end out' → length mid ≡ length out → Wrote (xs ++ bs) at out end out'
wrote_both xs bs at out k mid end out' a b l = record {
  end_is = omega (arith, a.end_is, b.end_is, length-append xs bs);
  fits = omega (arith, b.fits);
  front = b.front ∙ ap (λ t. t ++ bs) a.front ∙ append_assoc (take at out) xs bs;
  back = b.back ∙ drop-later mid out k end (omega (arith, b.end_is)) a.back;
}

-- a slice copied whole to `out[at..end]`
pub wrote_copy : (bs : List ℕ) (at : ℕ) (out : List ℕ) (end : ℕ) (part : List ℕ) → part ≡ bs → end ≡ at + length bs → end ≤ length out → Wrote bs at out end (put_mid at (end - at) out part)
wrote_copy bs at out end part is ends fits =
    let l : length part ≡ length bs = ap length is in
    record {
      end_is = ends;
      fits = fits;
      front = take-put_mid at (end - at) out part end (omega arith) (omega arith) ∙ ap (λ t. take at out ++ t) is;
      back = drop-put_mid at (end - at) out part end (omega arith) (omega arith) (omega arith);
    }

-- what a writer appends

-- where there is room, something is written, and what it is
pub appends_some : (P : Type 0) (bs : List ℕ) (w : BitWriter) (r : Option (Unit {0})) (w' : BitWriter)
    → AppendsIf P bs w r w' → P → w.at + length bs ≤ length w.bytes.now → is_some r ≡ true
appends_some P bs w None w' a p h = absurd (a.0 p h)
appends_some P bs w (Some u) w' a p h = refl

pub appends_done : (P : Type 0) (bs : List ℕ) (w : BitWriter) (r : Option (Unit {0})) (u : Unit {0}) (w' : BitWriter)
    → AppendsIf P bs w r w' → r ≡ Some u → Appends bs w w'
appends_done P bs w r u w' a e = (subst (λ t. AppendsIf P bs w t w') e a).1

pub appends_none : (w : BitWriter) → Appends [] w w
appends_none w = record { same_buffer = refl; wrote = record { end_is = omega arith; fits = w.within; front = sym (append-nil _); back = refl } }

-- a write leaves the buffer as long as it was
pub appends_length : {bs : List ℕ} {w w' : BitWriter} → Appends bs w w' → length w'.bytes.now ≡ length w.bytes.now
appends_length {bs} {w} {w'} a = written_length bs w.at w.bytes.now w'.at w'.bytes.now w.within a.wrote

pub appends_both : {xs ys : List ℕ} {u v w : BitWriter} → Appends xs u v → Appends ys v w → Appends (xs ++ ys) u w
appends_both {xs} {ys} {u} {v} {w} a b = record {
  same_buffer = b.same_buffer ∙ a.same_buffer;
  wrote = wrote_both xs ys u.at u.bytes.now v.at v.bytes.now w.at w.bytes.now a.wrote b.wrote (appends_length a);
}

-- what was appended since has Q
pub record Since (Q : List ℕ → Type 0) (w₀ w : BitWriter) : Type 0 where
  pub front : List ℕ
  pub holds : Q front
  pub appends : Appends front w₀ w

pub since_none : (Q : List ℕ → Type 0) (w : BitWriter) → Q [] → Since Q w w
since_none Q w q = record { front = []; holds = q; appends = appends_none w }

pub since_more : (Q Q' : List ℕ → Type 0) (bs : List ℕ) {w₀ w w' : BitWriter} → Since Q w₀ w → Appends bs w w' → ((front : List ℕ) → Q front → Q' (front ++ bs)) → Since Q' w₀ w'
since_more Q Q' bs s a step = record { front = s.front ++ bs; holds = step s.front s.holds; appends = appends_both s.appends a }

pub since_same : (Q Q' : List ℕ → Type 0) {w₀ w : BitWriter} → Since Q w₀ w → ((front : List ℕ) → Q front → Q' front) → Since Q' w₀ w
since_same Q Q' s step = record { front = s.front; holds = step s.front s.holds; appends = s.appends }

pub since_all : (all : List ℕ) {w₀ w : BitWriter} → Since (λ front. front ≡ all) w₀ w → Appends all w₀ w
since_all all {w₀} {w} s = subst (λ t. Appends t w₀ w) s.holds s.appends

-- where it is a front of what has room, the rest has room too
pub since_room : (all rest : List ℕ) {w₀ w : BitWriter} → Since (λ front. front ++ rest ≡ all) w₀ w → w₀.at + length all ≤ length w₀.bytes.now → w.at + length rest ≤ length w.bytes.now
since_room all rest s room = omega (arith, s.appends.wrote.end_is, appends_length s.appends, length-append s.front rest, ap length s.holds)
