use Rattle.std.proofs.Common.{rules}
use Rattle.roam_charset.proofs.sets.Sets.new.Goals as goal

pub returns : goal.returns
returns c = search rules
