use Rattle.std.proofs.Common.{sym, ◌∙◌}
use Rattle.std.proofs.Math.Seq.{drop-length}
use Rattle.roam_terminal_input.proofs.Cutting.{first_cut, no_cut}
use Rattle.roam_terminal_input.proofs.keys.first_line.Goals as goal

pub returns-in-Some-clause-lines : goal.returns-in-Some-clause-lines
returns-in-Some-clause-lines c =
    let text = c.args.text.now in
    let cut = first_cut text c.in-Some.end (sym c.end_in.ensures.place ∙ c.in-Some.is) in
    rw (c.split_at.ensures.front, c.split_at-in-Some.ensures.back) cut

pub returns-in-None-clause-lines : goal.returns-in-None-clause-lines
returns-in-None-clause-lines c =
    let text = c.args.text.now in
    let one = no_cut text c.requires.some (sym c.end_in.ensures.place ∙ c.in-None.is) in
    rw (c.split_at-in-None.ensures.back, drop-length text) one
