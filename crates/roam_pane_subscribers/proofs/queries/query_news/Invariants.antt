use Rattle.std.proofs.Common.{◌≡◌, ◌-◌}
use Rattle.roam_pane_subscribers.specs.Queries.{query_news}
use Rattle.roam_pane_subscribers.proofs.queries.query_news.Given as goal

abbrev pub invariant-loop-pane : goal.invariant-loop-pane
invariant-loop-pane l = l.text.items ≡ query_news (l.pane - 1) l.told l.now l.panes.all.items
