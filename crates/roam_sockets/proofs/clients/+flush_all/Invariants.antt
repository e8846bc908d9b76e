use Rattle.std.proofs.Common.{length}
use Rattle.roam_sockets.proofs.clients.+flush_all.Given as goal

abbrev pub decreases-flush_all : goal.decreases-flush_all
decreases-flush_all g l = length l.all.now
