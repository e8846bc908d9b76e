use Rattle.std.proofs.Common.{sym, ◌∙◌}
use Rattle.roam_terminal_input.proofs.Fronts.{line_first}
use Rattle.roam_terminal_input.proofs.lines.Lines.took.Goals as goal

pub returns-clause-none : goal.returns-clause-none
returns-clause-none c none =
    absurd (none _ _ (line_first c.args.self.now.kept c.in-Line.len (sym c.front.ensures.front ∙ c.in-Line.is)))
