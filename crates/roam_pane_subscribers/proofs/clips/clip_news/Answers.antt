use Rattle.std.proofs.Common.{arith, rules}
use Rattle.roam_pane_subscribers.specs.Clips.{clip_news}
use Rattle.roam_pane_subscribers.proofs.Clipped.{clips_on}
use Rattle.roam_pane_subscribers.proofs.clips.clip_news.Goals as goal

pub loop-pane-init : goal.loop-pane-init
unfolding clip_news
loop-pane-init c = search rules

pub loop-pane-preserved : goal.loop-pane-preserved
loop-pane-preserved c =
    clips_on c.loop-pane.pane c.args.told.now c.args.now.now c.args.panes.now.all.items _ _ c.clip.result.now c.get-was.result
    c.get-is.result (omega arith) c.in_ok-push_clip.ensures.lines c.loop-pane.invariant (c.clip.ensures.clip (omega arith))
    c.get-was.ensures.pane c.get-is.ensures.pane
