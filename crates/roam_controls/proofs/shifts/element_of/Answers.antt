use Rattle.std.proofs.Common.{rules}
use Rattle.roam_controls.proofs.shifts.element_of.Goals as goal

pub returns-in-42 : goal.returns-in-42
returns-in-42 c = search rules
