use Rattle.std.proofs.Common.{rules}
use Rattle.roam_charset.specs.Charsets.{mapped_by}
use Rattle.roam_charset.proofs.charsets.Charset.map.Goals as goal

pub returns-then-c-eq35 : goal.returns-then-c-eq35
unfolding mapped_by
returns-then-c-eq35 c = search rules

pub returns-else-c-eq35 : goal.returns-else-c-eq35
unfolding mapped_by
returns-else-c-eq35 c = search rules
