use Rattle.std.proofs.Common.{rules}
use Rattle.roam_term.proofs.canvases.Canvas.act.Goals as goal

pub returns-in-Edits-clause-history : goal.returns-in-Edits-clause-history
returns-in-Edits-clause-history c = search rules
