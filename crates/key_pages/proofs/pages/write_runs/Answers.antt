use Rattle.std.proofs.Common.{◌≡◌, ℕ, List, length, sym, ap, ◌∙◌, arith, rules}
use Rattle.std.proofs.lemmas.List.{length-take-le}
use Rattle.page_format.specs.declared.bit_writer.BitWriter.{BitWriter}
use Rattle.page_format.specs.Writes.{Wrote}
use Rattle.key_pages.specs.Runs.{page}
use Rattle.key_pages.specs.Held.{Extends, front_of}
use Rattle.key_pages.proofs.Carried.{extends_both}
use Rattle.key_pages.proofs.Finishing.{put_ready, put_after, end_ready, page_is}
use Rattle.key_pages.proofs.pages.write_runs.Goals as goal

pub put-requires-clause-ready : goal.put-requires-clause-ready
put-requires-clause-ready c = put_ready c.loop-key.invariant c.requires.few c.from.ensures c.loop-key-test.true

pub loop-key-preserved : goal.loop-key-preserved
loop-key-preserved c = put_after c.loop-key.invariant c.requires.few c.from.ensures c.loop-key-test.true c.put.ensures.refines c.put.ensures.grows

pub finish-requires : goal.finish-requires
finish-requires c = end_ready c.loop-key.invariant c.requires.few c.loop-key-test.false

wrote_page : {w w' : BitWriter} {bs : List ℕ} → w.at ≡ 0 → Extends w w' → front_of w' ≡ bs → Wrote bs 0 w.bytes.now w'.at w'.bytes.now
wrote_page {w} {w'} z x is = record {
  end_is = omega (arith, length-take-le w'.at w'.bytes.now w'.within, ap length is);
  fits = omega (arith, x.long, w'.within);
  front = is;
  back = x.back;
}

pub returns : goal.returns
returns c =
    let a = c.loop-key.invariant in
    let x = extends_both (extends_both c.new-encoder.ensures.extends a.extends) c.finish.ensures.ended.extends in
    let is = page_is a c.requires.few c.loop-key-test.false c.finish.ensures.ended in
    let w = wrote_page c.new-writer.ensures.front x is in
    let w' : Wrote (page c.args.width.bits c.args.keys.now) 0 c.args.out.now c.position.result c.finish.new.out.bytes.now = rw (c.position.ensures, ← c.new-writer.ensures.bytes) w in
    let name = sym (x.same_buffer ∙ c.new-writer.ensures.same_buffer) in
    search (rules, name, w')
