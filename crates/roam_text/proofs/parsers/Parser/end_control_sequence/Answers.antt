use Rattle.std.proofs.Common.{rules}
use Rattle.roam_text.proofs.parsers.Parser.end_control_sequence.Goals as goal

pub returns-clause-function : goal.returns-clause-function
returns-clause-function c = search rules
