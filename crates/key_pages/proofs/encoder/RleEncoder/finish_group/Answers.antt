use Rattle.std.proofs.Common.{◌≡◌, ℕ, zero, suc, ◌-◌, ◌^◌, ◌<◌, ◌≤◌, ◌⊎◌, List, [], ◌∷◌, ◌++◌, true, false, length, take, replicate, is_some, Some, None, Option, sym, ap, ◌∙◌, subst, inl, inr, arith, pow_pos}
use Rattle.std.specs.List.{AllByRecursion}
use Rattle.std.proofs.lemmas.List.{take_all}
use Rattle.std.proofs.ByRecursion.{All-append}
use Rattle.page_format.specs.declared.bit_writer.BitWriter.{BitWriter}
use Rattle.key_pages.specs.Runs.{Run, filled}
use Rattle.key_pages.specs.Machine.{Writer, closed, finish}
use Rattle.key_pages.specs.Held.{bytes, Page, Stands, Gathered}
use Rattle.key_pages.specs.declared.encoder.OpenRun.{OpenRun}
use Rattle.key_pages.specs.declared.encoder.RleEncoder.{RleEncoder}
use Rattle.key_pages.proofs.Sizes.{length-filled}
use Rattle.key_pages.proofs.Finishing.{ended, ends_packs}
use Rattle.key_pages.proofs.encoder.RleEncoder.finish_group.Goals as goal
use Rattle.key_pages.proofs.encoder.RleEncoder.finish_group.Goals.{Joined-else-is_none, else-is_none-via-then-is_none+else-repeats-self, else-is_none-via-else-is_none}

none_open : {w : ℕ} {rs : List Run} {gs : List (List ℕ)} {out : BitWriter} (o : Option OpenRun) → Page w rs gs o out → is_some o ≡ false → gs ≡ []
none_open None p e = p.open_is
none_open (Some run) p e = cc

some_open : {w : ℕ} {rs : List Run} {gs : List (List ℕ)} {out : BitWriter} (o : Option OpenRun) → Page w rs gs o out → is_some o ≡ true → 0 < length gs
some_open None p e = cc
some_open (Some run) p e = p.open_is.0

pub returns-then-repeats-self : goal.returns-then-repeats-self
returns-then-repeats-self c = record {
  ended = ended _ (λ m h a. (h, sym a.count_is, (none_open _ h.page c.if-is_none.ensures, inr (omega arith, omega arith, omega arith)))) c.put_repeat.ensures.wrote;
}

-- the keys that wait are not all equal, or a packed run is open
Unlike : ℕ → RleEncoder → Type 0
Unlike r e = (0 < e.waiting) × ((is_some e.«open» ≡ true) ⊎ (r ≡ e.waiting → ⊥))

unlike : (c : Joined-else-is_none) → Unlike c.args.repeats c.args.self
unfolding Unlike
unlike c = (omega arith, elim c.else-is_none.branch [ else-is_none-via-then-is_none+else-repeats-self w ↦ inr w.if-repeats-self.false | else-is_none-via-else-is_none w ↦ inl w.if-is_none.ensures ])

filled_up : RleEncoder → List ℕ → RleEncoder
filled_up e g = record e { group = g; waiting = 8 }

with_fill : Writer → Writer
with_fill m = record m { part = filled m.part }

zeros_inside : (w n : ℕ) → AllByRecursion (λ k. k < 2 ^ w) (replicate n 0)
zeros_inside w zero = tt
zeros_inside w (suc n) = (pow_pos w, zeros_inside w n)

module _ {m : Writer} {e : RleEncoder} {out : BitWriter} (h : Stands m e out) (g : List ℕ) (is : g ≡ filled (take e.waiting e.group)) (r : ℕ) (a : Gathered r m) where
  fill_stands : Stands (with_fill m) (filled_up e g) out
  unfolding with_fill filled_up
  fill_stands =
      let same : g ≡ filled m.part = is ∙ ap filled h.waits in
      let eight = length-filled m.part a.part_short in
      record {
        page = h.page;
        keys = record { eight = ap length same ∙ eight; waits = take_all 8 g (omega (arith, ap length same)) ∙ same; waiting_is = sym eight };
        last_is = h.last_is;
        inside = (h.inside.0, All-append (λ k. k < 2 ^ e.width.bits) m.part (replicate (8 - length m.part) 0) h.inside.1 (zeros_inside e.width.bits (8 - length m.part)));
      }

  finish_packs : Unlike r e → finish m ≡ closed m.runs (m.groups ++ filled m.part ∷ [])
  unfolding Unlike
  finish_packs u = ends_packs m.runs m.groups m.part m.last m.count (omega (arith, h.waiting_is, u.0)) (λ z. elim u.1 [
    | inl s ↦ absurd (omega (arith, some_open _ h.page s))
    | inr ne ↦ (omega (arith, a.count_is, a.count_low), λ y. ne (omega (arith, a.count_is, h.waiting_is)))
  ])

pub pack_group-requires : goal.pack_group-requires
unfolding with_fill filled_up
pack_group-requires c =
    let n = c.requires in
    record {
      model = with_fill n.model;
      held = fill_stands n.held _ c.fill_up-self.ensures.full _ n.apt;
      apt = (length-filled n.model.part n.apt.part_short, n.apt.groups_few);
      room = subst (λ t. length (bytes c.args.self.width.bits t) ≤ length c.args.out.now.bytes.now) (finish_packs n.held _ c.fill_up-self.ensures.full _ n.apt (unlike (goal.at.pack_group-requires c).Joined-else-is_none)) n.room;
    }

pub returns-else-is_none : goal.returns-else-is_none
unfolding with_fill filled_up
returns-else-is_none c = record {
  ended = record {
    front = λ m h a.
        let full = c.fill_up-self.ensures.full in
        let p = c.pack_group.ensures.refines (with_fill m) (fill_stands h _ full _ a) (length-filled m.part a.part_short, a.groups_few) in
        p.front ∙ ap (λ t. bytes t.bits (closed m.runs (m.groups ++ filled m.part ∷ []))) c.pack_group.ensures.grows.width_is
        ∙ ap (bytes c.args.self.width.bits) (sym (finish_packs h _ full _ a (unlike (goal.at.returns-else-is_none c).Joined-else-is_none)));
    extends = c.pack_group.ensures.grows.extends;
  };
}
