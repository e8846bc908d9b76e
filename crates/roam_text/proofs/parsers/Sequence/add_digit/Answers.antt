use Rattle.std.proofs.Common.{rules}
use Rattle.roam_text.proofs.parsers.Sequence.add_digit.Goals as goal

pub returns : goal.returns
returns c = search rules
