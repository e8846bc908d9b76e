use Rattle.std.proofs.Common.{rules}
use Rattle.roam_rows.proofs.places.bring_back.Goals as goal

pub returns-then-at-rows : goal.returns-then-at-rows
returns-then-at-rows c = search rules
