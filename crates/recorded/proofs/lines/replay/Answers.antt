use Rattle.std.proofs.Common.{◌≡◌, false, string_bytes, bytes_eq, drop, sym, ◌∙◌, ap, min, ◌+◌, if◌then◌else◌, true≢false}
use Rattle.recorded.specs.Lines.{is_answer, most}
use Rattle.recorded.proofs.Asking.{along_none, along_command, along_answer, no_answer, an_answer}
use Rattle.recorded.proofs.lines.replay.Goals.{then-not-agrees+in_ok-differs, else-not-agrees}
use Rattle.recorded.proofs.lines.replay.Goals as goal

pub loop-line-init : goal.loop-line-init
loop-line-init g c =
    let same = c.into_iter-line-iterator.ensures.into_iter_gives in
    record {
      can_next = rw same c.requires.can;
      ends = rw same c.requires.ends;
      along = along_none _ _ c.new-command.ensures.bytes c.new-tally.ensures.all c.new-tally.ensures.agree;
    }

pub loop-line-preserved-in_default : goal.loop-line-preserved-in_default
loop-line-preserved-in_default g c =
    let goes = c.in-Some.ensures.goes.on c.loop-line.invariant.ends in
    let none : is_answer (string_bytes c.in_ok-line.line) ≡ false = no_answer _ (λ rest e. c.in_default.ensures.cases rest (c.as_str.ensures.value ∙ e)) in
    record {
      can_next = goes.0;
      ends = goes.1;
      along = along_command c.loop-line.invariant.along _ c.in_ok-line.line c.in_ok-line.was none;
    }

pub loop-line-preserved : goal.loop-line-preserved
loop-line-preserved g c =
    let goes = c.in-Some.ensures.goes.on c.loop-line.invariant.ends in
    let stripped = c.in-Some-strip_prefix.ensures.cases in
    let text = c.as_str.ensures.value in
    let rest : c.in-Some-strip_prefix.recorded.now ≡ drop 2 (string_bytes c.in_ok-line.line) = stripped.2 ∙ ap (λ n. drop n c.as_str.result.now) stripped.1.0 ∙ ap (λ line. drop 2 line) text in
    let agrees : c.eq-agrees.result ≡ bytes_eq (string_bytes c.in_ok-ours.ours) (drop 2 (string_bytes c.in_ok-line.line)) = c.eq-agrees.ensures ∙ ap (λ ours. bytes_eq ours c.in-Some-strip_prefix.recorded.now) c.as_str-in-loop-line-2.ensures.value ∙ ap (λ rest. bytes_eq (string_bytes c.in_ok-ours.ours) rest) rest in
    record {
      can_next = goes.0;
      ends = goes.1;
      along = along_answer c.loop-line.invariant.along _ c.in_ok-line.line c.in_ok-line.was (an_answer _ _ (sym text ∙ stripped.1.1)) c.in_ok-ours.ours
          (record { shown = c.as_str-in-loop-line.result; shows = c.as_str-in-loop-line.ensures.value; says = record { met = c.in_ok-ours.ensures } })
          (λ differ. elim c.if-not-agrees.branch [
            | then-not-agrees+in_ok-differs w ↦ record {
              first = w.as_str-then-not-agrees.result;
              second = w.as_str-then-not-agrees-2.result;
              shows = (w.as_str-then-not-agrees.ensures.value, w.as_str-then-not-agrees-2.ensures.value);
              says = record { met = w.in_ok-differs.ensures };
            }
            | else-not-agrees w ↦ absurd (true≢false (sym w.if-not-agrees.false ∙ agrees ∙ differ))
          ])
          c.count.new.self c.count.ensures.all (c.count.ensures.agree ∙ ap (λ b. if b then min (c.loop-line.tally.agree + 1) most else c.loop-line.tally.agree) agrees);
    }
