use Rattle.std.proofs.Common.{length}
use Rattle.roam_pane_subscribers.proofs.clipping.+tell_each_clips.Given as goal

abbrev pub decreases-tell_each_clips : goal.decreases-tell_each_clips
decreases-tell_each_clips g l = length l.all.now
