use Rattle.std.proofs.Common.{length}
use Rattle.roam_shared_client.proofs.sharing.+paint_all.Given as goal

abbrev pub decreases-paint_all : goal.decreases-paint_all
decreases-paint_all g l = length l.all.now
