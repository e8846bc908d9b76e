use Rattle.std.proofs.Common.{arith, rules}
use Rattle.roam_pane_subscribers.specs.Queries.{query_news}
use Rattle.roam_pane_subscribers.proofs.Inquired.{asks_on}
use Rattle.roam_pane_subscribers.proofs.queries.query_news.Goals as goal

pub loop-pane-init : goal.loop-pane-init
unfolding query_news
loop-pane-init c = search rules

pub loop-pane-preserved : goal.loop-pane-preserved
loop-pane-preserved c =
    asks_on c.loop-pane.pane c.args.told.now c.args.now.now c.args.panes.now.all.items _ _ c.queries.result.now c.get-was.result
    c.get-is.result (omega arith) c.in_ok-push_queries.ensures.lines c.loop-pane.invariant (c.queries.ensures.last (omega arith))
    c.get-was.ensures.pane c.get-is.ensures.pane
