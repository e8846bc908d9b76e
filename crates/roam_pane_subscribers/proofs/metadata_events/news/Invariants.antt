use Rattle.std.proofs.Common.{◌≡◌, ◌-◌}
use Rattle.std.specs.Prelude.{string_bytes}
use Rattle.roam_pane_subscribers.specs.MetadataEvents.{metadata_news}
use Rattle.roam_pane_subscribers.proofs.metadata_events.news.Given as goal

abbrev pub invariant-loop-pane : goal.invariant-loop-pane
invariant-loop-pane l = string_bytes l.text ≡ metadata_news (l.pane - 1) l.told l.now l.panes.all.items
