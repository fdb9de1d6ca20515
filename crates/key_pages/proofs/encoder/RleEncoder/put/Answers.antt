use Rattle.std.proofs.Common.{◌≡◌, ℕ, ◌+◌, ◌^◌, ◌<◌, ◌≤◌, List, ◌∷◌, [], ◌++◌, length, Some, None, Option, sym, refl, ap, ◌∙◌, subst, arith, length-append}
use Rattle.std.proofs.lemmas.Bool.Decides.{nat_tests}
use Rattle.page_format.specs.declared.bit_writer.BitWriter.{BitWriter}
use Rattle.page_format.specs.Writes.{Appends}
use Rattle.key_pages.specs.Runs.{Run, repeat, run_bytes}
use Rattle.key_pages.specs.Machine.{Writer, closed, put}
use Rattle.key_pages.specs.Held.{Page, Stands, Holds, Counts, bytes, front_of, Extends, Room, joining, Joins, Small, Ready}
use Rattle.key_pages.specs.declared.encoder.OpenRun.{OpenRun}
use Rattle.key_pages.specs.declared.encoder.RleEncoder.{RleEncoder}
use Rattle.key_pages.specs.declared.encoder.State.{State}
use Rattle.key_pages.specs.declared.encoder.State.TheVariants.{Gathering, Repeating}
use Rattle.key_pages.proofs.Carried.{bytes_push, closed_push, extends_none, extends_both, extends_appends, at_is, packing_longer}
use Rattle.key_pages.proofs.Finishing.{repeats_long}
use Rattle.key_pages.proofs.encoder.RleEncoder.put.Goals as goal
use Rattle.key_pages.proofs.encoder.RleEncoder.put.Goals.{Joined-self, in-Repeating-false, in-Gathering-true, in-Gathering-false}

-- a key makes the page no shorter
joining_longer : (w : ℕ) (m : Writer) → length (bytes w (closed m.runs m.groups)) ≤ length (bytes w (closed (joining m).runs (joining m).groups))
joining_longer w m =
    let part = m.part ++ m.last ∷ [] in
    grind (arith, nat_tests, closed_push m.runs m.groups part, packing_longer w m.runs m.groups part)

gathers : {s : State} {r n : ℕ} → s ≡ Gathering r → Counts s n → (r ≡ n) × (n < 8)
gathers {n} e c = subst (λ t. Counts t n) e c

-- the machine of m before the key joins the group, which e stands for, with the key as its last
record Prepared (m : Writer) (key repeats : ℕ) (e : RleEncoder) (out : BitWriter) : Type 0 where
  pub model : Writer
  pub held : Stands model (record e { last = key }) out
  pub apt : Joins repeats model
  pub is : put m key ≡ joining model

-- where no packed run is open, none is open behind a run more
no_run : {w : ℕ} {rs rs' : List Run} {gs : List (List ℕ)} {out out' : BitWriter} (o : Option OpenRun) → Page w rs gs o out → gs ≡ [] → front_of out' ≡ bytes w rs' → Page w rs' gs o out'
no_run None p z front = record { front = rw z front; open_is = z }
no_run (Some run) p z front = absurd (omega (arith, p.open_is.0, ap length z))

module _ {m : Writer} {e : RleEncoder} {out : BitWriter} (key : ℕ) (h : Holds m e out) (a : Small m) (fits : key < 2 ^ e.width.bits) (r : ℕ) where
  prepared : (n k : ℕ) (s : State) → n ≡ k → k ≤ length m.part + 1 → put m key ≡ joining (record m { last = key; count = n }) → Prepared m key k (record e { state = s }) out
  prepared n k s same low is =
      let t = h.stands in
      record {
        model = record m { last = key; count = n };
        held = record { page = t.page; keys = t.keys; last_is = refl; inside = (fits, t.inside.1) };
        apt = record { part_short = a.part_short; groups_few = a.groups_few; count_is = same; count_low = low };
        is = is;
      }

  same : key ≡ e.last → e.state ≡ Gathering r → Prepared m key (r + 1) (record e { state = Gathering r }) out
  same k s =
      let c = gathers s h.counts in
      prepared (m.count + 1) (r + 1) (Gathering r) (omega (arith, c)) (omega (arith, a.grouping c.1, c.0)) (grind (arith, nat_tests, h.stands.last_is, c))

  other : (key ≡ e.last → ⊥) → e.state ≡ Gathering r → Prepared m key 1 (record e { state = Gathering r }) out
  other k s = prepared 1 1 (Gathering r) refl (omega arith) (grind (arith, nat_tests, h.stands.last_is, gathers s h.counts))

  module _ (k : key ≡ e.last → ⊥) (s : e.state ≡ Repeating r) where
    n : (r ≡ m.count) × (8 ≤ m.count)
    n = repeats_long s h.counts

    -- the machine with the repeat run
    repeated : Writer
    repeated = record m { runs = m.runs ++ repeat m.count m.last ∷ []; last = key; count = 1 }

    is : put m key ≡ joining repeated
    unfolding repeated
    is = grind (arith, nat_tests, h.stands.last_is, n)

    front : front_of out ≡ bytes e.width.bits m.runs
    front = h.stands.front ∙ ap (λ t. bytes e.width.bits (closed m.runs t)) (a.repeating n.1)

    after : {mid : BitWriter} → Appends (run_bytes e.width.bits (repeat r e.last)) out mid → Prepared m key 1 (record e { state = Repeating r }) mid
    unfolding repeated
    after wrote =
        let t = h.stands in
        record {
          model = repeated;
          held = record {
            page = no_run e.«open» t.page (a.repeating n.1) (wrote.wrote.front ∙ rw (front, n.0, t.last_is) (sym (bytes_push e.width.bits m.runs (repeat m.count m.last))));
            keys = t.keys;
            last_is = refl;
            inside = (fits, t.inside.1);
          };
          apt = record { part_short = a.part_short; groups_few = a.groups_few; count_is = refl; count_low = omega arith };
          is = is;
        }

    -- a repeat run of the last key finds its room
    repeat_room : Room e.width.bits (put m key) (length out.bytes.now) → out.at + length (run_bytes e.width.bits (repeat r e.last)) ≤ length out.bytes.now
    unfolding repeated
    repeat_room room =
        let w = e.width.bits in
        let t = h.stands in
        let run = repeat m.count m.last in
        let longer : length (bytes w (closed (m.runs ++ run ∷ []) m.groups)) ≡ length (bytes w (closed m.runs m.groups)) + length (run_bytes w run) =
        rw (a.repeating n.1) (ap length (bytes_push w m.runs run) ∙ length-append (bytes w m.runs) (run_bytes w run)) in
        rw (n.0, t.last_is) (omega (arith, joining_longer w repeated, subst (λ x. Room w x (length out.bytes.now)) is room, at_is t))

pub put_repeat-requires-clause-room : goal.put_repeat-requires-clause-room
put_repeat-requires-clause-room c =
    let r = c.requires.ready in
    repeat_room c.args.key r.held r.apt c.requires.inside _ c.in-Repeating-false.is-1 c.in-Repeating-false.is-0 r.room

record Way (e : RleEncoder) (out : BitWriter) (key : ℕ) (e' : RleEncoder) (out' : BitWriter) (repeats : ℕ) : Type 0 where
  pub prepared : (m : Writer) → Holds m e out → Small m → Prepared m key repeats e' out'
  pub extends : Extends out out'
  pub width_is : e'.width ≡ e.width

way : (c : Joined-self) → Way c.args.self.now c.args.out.now c.args.key c.match-self.self c.match-self.out c.match-self.repeats
way c =
    let key = c.args.key in
    let fits = c.requires.inside in
    elim c.match-self.branch [
      | in-Repeating-false w ↦
          let arm = w.in-Repeating-false in
          let wrote = w.put_repeat.ensures.wrote in
          rw (w.self-is, w.out-is, w.repeats-is) (record { prepared = λ m h a. after key h a fits _ arm.is-1 arm.is-0 wrote; extends = extends_appends wrote; width_is = refl })
      | in-Gathering-true w ↦
          let arm = w.in-Gathering-true in
          rw (w.self-is, w.out-is, w.repeats-is) (record { prepared = λ m h a. same key h a fits _ arm.is-1 arm.is-0; extends = extends_none _; width_is = refl })
      | in-Gathering-false w ↦
          let arm = w.in-Gathering-false in
          rw (w.self-is, w.out-is, w.repeats-is) (record { prepared = λ m h a. other key h a fits _ arm.is-1 arm.is-0; extends = extends_none _; width_is = refl })
    ]

ready : {e e' : RleEncoder} {out out' : BitWriter} {key n : ℕ} → Way e out key e' out' n → Ready Holds (λ m. put m key) Small e out → Ready Stands joining (Joins n) (record e' { last = key }) out'
ready {e} {e'} {out} {out'} w r =
    let p = w.prepared r.model r.held r.apt in
    let room = subst (λ t. Room e.width.bits t (length out.bytes.now)) p.is r.room in
    record {
      model = p.model;
      held = p.held;
      apt = p.apt;
      room = subst (λ t. Room t.bits (joining p.model) (length out'.bytes.now)) (sym w.width_is) (subst (Room e.width.bits (joining p.model)) (sym w.extends.long) room);
    }

pub join_group-requires : goal.join_group-requires
join_group-requires c = ready (way (goal.at.join_group-requires c).Joined-self) c.requires.ready

pub returns-clause-refines : goal.returns-clause-refines
returns-clause-refines c m h a =
    let p = (way (goal.at.returns-clause-refines c).Joined-self).prepared m h a in
    subst (λ t. Holds t c.join_group.new.self c.join_group.new.out) (sym p.is) (c.join_group.ensures.refines p.model p.held p.apt)

pub returns-clause-grows : goal.returns-clause-grows
returns-clause-grows c =
    let w = way (goal.at.returns-clause-grows c).Joined-self in
    let g = c.join_group.ensures.grows in
    record { width_is = g.width_is ∙ w.width_is; extends = extends_both w.extends g.extends }
