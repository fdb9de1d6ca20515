use Rattle.std.proofs.Common.{arith, length-append}
use Rattle.page_format.specs.Plain.{plain_head}
use Rattle.page_format.proofs.Writing.{appends_some, appends_done, appends_both, appends_length}
use Rattle.interner.proofs.plain.append_form.Goals as goal

pub unwrap-requires : goal.unwrap-requires
unwrap-requires c =
    let v = c.args.value.now in
    let head = c.append_head.ensures in
    appends_some _ v _ _ _ c.write_bytes.ensures tt (omega (arith, head.wrote.end_is, appends_length head, length-append (plain_head c.args.column v) v))

pub returns : goal.returns
returns c = appends_both c.append_head.ensures (appends_done _ _ _ _ _ _ c.write_bytes.ensures c.unwrap.ensures)
