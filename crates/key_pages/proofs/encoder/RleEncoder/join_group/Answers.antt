use Rattle.std.proofs.Common.{◌≡◌, ℕ, ◌+◌, ◌^◌, ◌<◌, ◌++◌, ◌∷◌, [], length, set, sym, refl, ◌∙◌, subst, arith, length-set}
use Rattle.std.proofs.lemmas.List.{length_push, take_more_set}
use Rattle.std.proofs.ByRecursion.{All-push}
use Rattle.std.proofs.lemmas.Bool.Decides.{nat_tests}
use Rattle.page_format.specs.declared.bit_writer.BitWriter.{BitWriter}
use Rattle.key_pages.specs.Machine.{Writer}
use Rattle.key_pages.specs.Held.{Holds, Room, Stands, Fills, Joins, filling, joining}
use Rattle.key_pages.specs.declared.encoder.RleEncoder.{RleEncoder}
use Rattle.key_pages.proofs.encoder.RleEncoder.join_group.Goals as goal

with_key : Writer → Writer
with_key m = record m { part = m.part ++ m.last ∷ [] }

takes_key : {m : Writer} {e : RleEncoder} {out : BitWriter} → Stands m e out → length m.part < 8
    → Stands (with_key m) (record e { group = set e.group e.waiting e.last; waiting = e.waiting + 1 }) out
unfolding with_key
takes_key {m} {e} h s = record {
  page = h.page;
  keys = record {
    eight = length-set e.group e.waiting e.last ∙ h.eight;
    waits = take_more_set e.group e.waiting e.last (omega (arith, h.eight, h.waiting_is)) ∙ rw (h.waits, h.last_is) refl;
    waiting_is = omega (arith, length_push m.part m.last, h.waiting_is);
  };
  last_is = h.last_is;
  inside = (h.inside.0, All-push (λ k. k < 2 ^ e.width.bits) m.part m.last h.inside.1 h.inside.0);
}

fills : {m : Writer} {e : RleEncoder} {out : BitWriter} {repeats : ℕ} → Stands m e out → Joins repeats m → e.waiting + 1 ≡ 8 → Fills repeats (with_key m)
unfolding with_key
fills {m} h a is = record { full_is = (omega (arith, length_push m.part m.last, h.waiting_is), a.groups_few); count_is = a.count_is }

joins : {m : Writer} {e : RleEncoder} {out : BitWriter} → Stands m e out → e.waiting + 1 ≡ 8 → joining m ≡ filling (with_key m)
unfolding with_key
joins h is = grind (arith, nat_tests, h.waiting_is)

pub fill_group-requires : goal.fill_group-requires
unfolding with_key
fill_group-requires c =
    let r = c.requires in
    record {
      model = with_key r.model;
      held = takes_key r.held r.apt.part_short;
      apt = fills r.held r.apt c.if-self-eq8.true;
      room = subst (λ t. Room c.args.self.now.width.bits t (length c.args.out.now.bytes.now)) (joins r.held c.if-self-eq8.true) r.room;
    }

pub returns-then-self-eq8-clause-refines : goal.returns-then-self-eq8-clause-refines
unfolding with_key
returns-then-self-eq8-clause-refines c m h a =
    subst (λ t. Holds t c.fill_group.new.self c.fill_group.new.out) (sym (joins h c.if-self-eq8.true))
    (c.fill_group.ensures.refines (with_key m) (takes_key h a.part_short) (fills h a c.if-self-eq8.true))
