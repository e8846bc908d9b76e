use Rattle.std.proofs.Common.{rules}
use Rattle.roam_text.proofs.parsers.Parser.in_control_sequence.Goals as goal

pub returns-in-C0Control : goal.returns-in-C0Control
returns-in-C0Control c = search rules
