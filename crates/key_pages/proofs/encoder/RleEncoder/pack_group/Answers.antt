use Rattle.std.proofs.Common.{◌≡◌, ℕ, ◌<◌, List, ◌∷◌, [], ◌++◌, length, refl, sym, ap, ◌∙◌, subst, arith, length-append}
use Rattle.std.proofs.lemmas.List.{length_push, take_all, length-take-le}
use Rattle.std.proofs.lemmas.Option.{MatchOption-at_none}
use Rattle.page_format.specs.declared.bit_writer.BitWriter.{BitWriter}
use Rattle.key_pages.specs.Runs.{packed, run_bytes}
use Rattle.key_pages.specs.Machine.{Writer, closed}
use Rattle.key_pages.specs.Held.{bytes, Extends, Packs, Stands}
use Rattle.key_pages.specs.declared.encoder.OpenRun.{OpenRun}
use Rattle.key_pages.specs.declared.encoder.RleEncoder.{RleEncoder}
use Rattle.key_pages.proofs.Sizes.{length-group}
use Rattle.key_pages.proofs.Carried.{extends_none, extends_both, extends_appends, packs_behind, closed_bytes, group_longer, at_is, opened, begun}
use Rattle.key_pages.proofs.encoder.RleEncoder.pack_group.Goals as goal
use Rattle.key_pages.proofs.encoder.RleEncoder.pack_group.Goals.{Joined-self, in-Some, in-None}

first_byte : (w : ℕ) (gs : List (List ℕ)) → 0 < length (run_bytes w (packed gs))
unfolding run_bytes
first_byte w gs = omega arith

pub begin-run-requires : goal.begin-run-requires
begin-run-requires c =
    let m = c.requires.model in
    let w = c.args.self.now.width.bits in
    let z : m.groups ≡ [] = MatchOption-at_none _ _ c.in-None.is c.requires.held.open_is in
    omega (arith, c.requires.room, at_is c.requires.held, ap (λ t. length (bytes w (closed m.runs t))) z, group_longer w m.runs m.groups m.part, first_byte w m.groups)

-- the packed run that takes the group
record Way (e : RleEncoder) (out : BitWriter) (run : OpenRun) (mid : BitWriter) : Type 0 where
  pub packs : (m : Writer) → Stands m e out → Packs e.width.bits (bytes e.width.bits m.runs) m.groups run mid
  pub extends : Extends out mid

way : (c : Joined-self) → Way c.args.self.now c.args.out.now c.match-self.run c.match-self.out
way c = elim c.match-self.branch [
  | in-Some w ↦ rw (w.run-is, w.out-is) (record { packs = λ m h. opened _ h w.in-Some.is; extends = extends_none _ })
  | in-None w ↦ rw (w.run-is, w.out-is, w.begin-run.ensures.empty) (record { packs = λ m h. begun h w.in-None.is w.begin-run.ensures.wrote; extends = extends_appends w.begin-run.ensures.wrote })
]

packs_now : (c : Joined-self) → Packs c.args.self.now.width.bits (bytes c.args.self.now.width.bits c.requires.model.runs) c.requires.model.groups c.match-self.run c.match-self.out
packs_now c = (way c).packs c.requires.model c.requires.held

pub add-requires-clause-behind : goal.add-requires-clause-behind
add-requires-clause-behind c = packs_behind (packs_now (goal.at.add-requires-clause-behind c).Joined-self)

pub add-requires-clause-room : goal.add-requires-clause-room
add-requires-clause-room c =
    let m = c.requires.model in
    let w = c.args.self.now.width.bits in
    let out = c.match-self.out in
    let at = (goal.at.add-requires-clause-room c).Joined-self in
    omega (
      arith,
      c.requires.room,
      group_longer w m.runs m.groups m.part,
      length-group w m.part c.requires.apt.0,
      (way at).extends.long,
      length-take-le out.at out.bytes.now out.within,
      ap length (packs_now at).bytes_are,
      length-append (bytes w m.runs) (run_bytes w (packed m.groups)),
    )

pub returns-clause-refines : goal.returns-clause-refines
returns-clause-refines c m h f =
    let w = c.args.self.now.width.bits in
    let is : c.args.self.now.group ≡ m.part = sym (take_all _ _ (omega (arith, h.eight, h.waiting_is, f.0))) ∙ h.waits in
    let p = subst (λ t. Packs w (bytes w m.runs) (m.groups ++ t ∷ []) c.add.new.self c.add.new.out) is
    (c.add.ensures.packs (bytes w m.runs) m.groups ((way (goal.at.returns-clause-refines c).Joined-self).packs m h)) in
    let some : 0 < length (m.groups ++ m.part ∷ []) = omega (arith, length_push m.groups m.part) in
    record {
      page = record { front = p.bytes_are ∙ sym (closed_bytes w m.runs _ some); open_is = (some, p.counted, p.heads) };
      keys = record { eight = h.eight; waits = refl; waiting_is = refl };
      last_is = h.last_is;
      inside = (h.inside.0, tt);
    }

pub returns-clause-grows : goal.returns-clause-grows
returns-clause-grows c = record { width_is = refl; extends = extends_both (way (goal.at.returns-clause-grows c).Joined-self).extends c.add.ensures.extends }
