use Rattle.std.proofs.Common.{rules}
use Rattle.roam_controls.proofs.commands.marked_command.Goals as goal

pub returns-in-63 : goal.returns-in-63
returns-in-63 c = search rules
