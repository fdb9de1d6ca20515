use Rattle.std.proofs.Common.{inl}
use Rattle.key_pages.proofs.Finishing.{ended, repeats_long}
use Rattle.key_pages.proofs.encoder.RleEncoder.finish.Goals as goal

pub returns-in-Repeating : goal.returns-in-Repeating
returns-in-Repeating c = record {
  ended = ended _ (λ m h a.
      let n = repeats_long c.in-Repeating.is h.counts in
      (h.stands, n.0, (a.repeating n.1, inl n.1))) c.put_repeat.ensures.wrote;
}
