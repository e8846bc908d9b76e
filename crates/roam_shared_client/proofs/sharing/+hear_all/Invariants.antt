use Rattle.std.proofs.Common.{length}
use Rattle.roam_shared_client.proofs.sharing.+hear_all.Given as goal

abbrev pub decreases-hear_all : goal.decreases-hear_all
decreases-hear_all g l = length l.all.now
