use Rattle.std.proofs.Common.{rules}
use Rattle.roam_text.proofs.parsers.Parser.in_control_string.Goals as goal

pub returns-in-Escape : goal.returns-in-Escape
returns-in-Escape c = search rules

pub returns-then-bell : goal.returns-then-bell
returns-then-bell c = search rules
