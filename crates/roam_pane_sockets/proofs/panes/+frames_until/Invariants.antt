use Rattle.std.proofs.Common.{length}
use Rattle.roam_pane_sockets.proofs.panes.+frames_until.Given as goal

abbrev pub decreases-frames_until : goal.decreases-frames_until
decreases-frames_until l = length l.all.now
