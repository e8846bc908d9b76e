use Rattle.std.proofs.Common.{rules}
use Rattle.roam_screens.proofs.shots.Shot.row_text.Goals as goal

pub returns-clause-text : goal.returns-clause-text
returns-clause-text c = search rules
