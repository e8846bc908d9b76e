use Rattle.std.proofs.Common.{arith, rules}
use Rattle.roam_pane_subscribers.specs.MetadataEvents.{metadata_news}
use Rattle.roam_pane_subscribers.proofs.News.{news_on}
use Rattle.roam_pane_subscribers.proofs.metadata_events.news.Goals as goal

pub loop-pane-init : goal.loop-pane-init
unfolding metadata_news
loop-pane-init c = search rules

pub loop-pane-preserved : goal.loop-pane-preserved
loop-pane-preserved c =
    news_on c.loop-pane.pane c.args.told.now c.args.now.now c.args.panes.now.all.items _ _ c.title.result.now c.told_at.result c.get-is.result
    (omega arith) c.in_ok-push_metadata.ensures.lines c.loop-pane.invariant (c.title.ensures.title (omega arith)) c.told_at.ensures.told
    c.get-is.ensures.pane
