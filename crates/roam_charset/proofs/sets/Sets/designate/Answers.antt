use Rattle.std.proofs.Common.{rules}
use Rattle.roam_charset.proofs.sets.Sets.designate.Goals as goal

pub returns-in-G2 : goal.returns-in-G2
returns-in-G2 c = search rules
