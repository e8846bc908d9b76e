use Rattle.std.proofs.Common.{rules}
use Rattle.roam_text.proofs.parsers.Sequence.add_inter.Goals as goal

pub returns-then-is_full : goal.returns-then-is_full
returns-then-is_full c = search rules
