use Rattle.std.proofs.Common.{◌+◌, ◌∙◌, rules}
use Rattle.std.proofs.lemmas.List.{take_rest}
use Rattle.page_text.proofs.Splits.{cut_at, cut_none}
use Rattle.page_text.proofs.words.split.Goals as goal

pub returns-in-Some : goal.returns-in-Some
returns-in-Some c =
    let cut = cut_at c.args.byte c.args.text.now c.in-Some.i (search rules) (search rules) (search rules) in
    record { front = cut.0; back = take_rest c.args.text.now (c.in-Some.i + 1) ∙ cut.1 }

pub returns-in-None : goal.returns-in-None
returns-in-None c =
    let cut = cut_none c.args.byte c.args.text.now (search rules) in
    record { front = cut.0; back = cut.1 }
