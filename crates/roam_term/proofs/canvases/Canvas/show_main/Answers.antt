use Rattle.std.proofs.Common.{rules}
use Rattle.roam_term.proofs.canvases.Canvas.show_main.Goals as goal

pub returns-in_default-clause-shown : goal.returns-in_default-clause-shown
returns-in_default-clause-shown c = search rules
