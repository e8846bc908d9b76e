use Rattle.std.proofs.Common.{sym, subst}
use Rattle.roam_screens.specs.Narrow.{IsOldScreenshot}
use Rattle.roam_screens.proofs.Narrowed.{old_blank}
use Rattle.roam_hub.proofs.ends.first_old.Goals as goal

pub new-requires : goal.new-requires
new-requires c = record { old = subst IsOldScreenshot (sym c.in_ok-shot.ensures.blank) old_blank }
