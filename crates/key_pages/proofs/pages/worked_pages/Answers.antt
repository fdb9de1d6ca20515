use Rattle.std.proofs.Common.{rules}
use Rattle.page_format.specs.Bits.{varint, varint_in, le_bytes, packed_bytes, packed_number}
use Rattle.key_pages.specs.Runs.{page, cut, cut_in, cut_by, after_groups, few, eights, run_bytes}
use Rattle.key_pages.proofs.pages.worked_pages.Goals as goal

pub returns-clause-pages : goal.returns-clause-pages
unfolding page cut cut_in cut_by after_groups few eights run_bytes varint varint_in le_bytes packed_bytes packed_number
returns-clause-pages c = search rules
