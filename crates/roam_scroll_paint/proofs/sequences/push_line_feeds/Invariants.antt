use Rattle.std.proofs.Common.{◌≡◌, ◌++◌, replicate}
use Rattle.std.specs.List.{flat_map}
use Rattle.roam_scroll_paint.specs.Bands.{line_feed}
use Rattle.roam_scroll_paint.specs.Sequences.{text_of}
use Rattle.roam_scroll_paint.proofs.sequences.push_line_feeds.Given as goal

abbrev pub invariant-loop-step : goal.invariant-loop-step
invariant-loop-step l = l.text.items ≡ l.initial.text.items ++ flat_map text_of (replicate l._step line_feed)
