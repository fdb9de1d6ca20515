use Rattle.std.proofs.Common.{◌≡◌, ◌+◌, length, set, ap, arith}
use Rattle.std.specs.Vec.{with_items}
use Rattle.std.proofs.lemmas.List.{with_items_is}
use Rattle.interner.proofs.Holding.{entries_of}
use Rattle.interner.proofs.Growing.{Grown, grown}
use Rattle.interner.proofs.plain.PlainStorageStorage.push.Goals as goal
use Rattle.interner.proofs.plain.PlainStorageStorage.push.Goals.{After-record_entry}

-- the store after its new entry
after_entry : (c : After-record_entry) → let s = c.args.self.now in let v = c.args.value.now in
    Grown s.column s.bytes.items v (entries_of s) (with_items s.bytes c.write_form-end.new.memory).items (set s.table s.count c.record_entry.new.entry) (s.count + 1) c.write_form-end.result
after_entry c =
    let s = c.args.self.now in
    let out = c.write_form-end.new.memory in
    let long : length out ≡ length s.bytes.items = omega (arith, c.write_form-end.auto.memory, ap length c.deref_mut.ensures.value) in
    grown s.column s.bytes.items _ out _ c.args.value.now s.table _ s.count s.used c.write_form-end.result s.laid (omega arith) long
    c.deref_mut.ensures.value c.write_form-end.ensures (with_items_is s.bytes out (omega arith)) c.record_entry.ensures c.in-Some.ensures.0

pub invariant_of-self : goal.invariant_of-self
invariant_of-self c = record { laid = (after_entry c).laid }

pub returns-clause-grown : goal.returns-clause-grown
returns-clause-grown c = (after_entry (goal.at.returns-clause-grown c).After-record_entry).stored_is

pub returns-clause-bytes : goal.returns-clause-bytes
returns-clause-bytes c = (after_entry (goal.at.returns-clause-bytes c).After-record_entry).memory_is
