use Rattle.std.proofs.Common.{ℕ, arith, length-append}
use Rattle.page_format.proofs.Endian.{length-le_bytes}
use Rattle.page_format.proofs.Writing.{appends_some, appends_done, appends_length}
use Rattle.key_pages.specs.Runs.{run_bytes}
use Rattle.key_pages.proofs.run_bytes.put_repeat.Goals as goal

pub unwrap-requires-2 : goal.unwrap-requires-2
unfolding run_bytes
unwrap-requires-2 c =
    let first = appends_done _ _ _ _ _ _ c.write_varint.ensures.written c.unwrap.ensures in
    appends_some _ _ _ _ _ c.write_le.ensures.written (omega (arith, c.bytes.ensures))
    (omega (arith, c.requires.room, first.wrote.end_is, appends_length first, c.bytes.ensures, length-append {A = ℕ}, length-le_bytes))
