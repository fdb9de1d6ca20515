use Rattle.std.proofs.Common.{codes}
use Rattle.std.proofs.lemmas.Slice.Eq.{strip_prefix_is}
use Rattle.std.proofs.lemmas.Bool.Decides.{Decides-eqb}
use Rattle.page_text.proofs.Parsed.{entries_by}
use Rattle.page_text.proofs.Results.{MatchResultOk_or}
use Rattle.page_text.proofs.reader.entries_line.Goals as goal

pub returns : goal.returns
returns c =
    let stripped = strip_prefix_is Decides-eqb c.args.line.now (codes "entries ") c.strip_prefix.result c.strip_prefix.ensures.cases in
    let read = entries_by c.args.line.now c.strip_prefix.result c.and_then.result stripped c.and_then.ensures in
    record { reads = rw c.ok_or.ensures.value (MatchResultOk_or _ _ c.and_then.result _ read) }
