use Rattle.std.proofs.Common.{◌≡◌, ◌++◌, string_bytes}
use Rattle.std.specs.List.{flat_map}
use Rattle.key_pages.specs.Coming.{runs_to_come}
use Rattle.page_report.specs.Lines.{run_line}
use Rattle.page_report.proofs.pages.run_lines.Given as goal

-- what is written and what is to come are the whole
abbrev pub invariant-loop-run : goal.invariant-loop-run
invariant-loop-run l = string_bytes l.text ++ flat_map run_line (runs_to_come l.run-iterator) ≡ flat_map run_line (runs_to_come l.fn.runs)
