use Rattle.std.proofs.Common.{◌≡◌, ◌-◌}
use Rattle.roam_pane_subscribers.specs.Clips.{clip_news}
use Rattle.roam_pane_subscribers.proofs.clips.clip_news.Given as goal

abbrev pub invariant-loop-pane : goal.invariant-loop-pane
invariant-loop-pane l = l.text.items ≡ clip_news (l.pane - 1) l.told l.now l.panes.all.items
