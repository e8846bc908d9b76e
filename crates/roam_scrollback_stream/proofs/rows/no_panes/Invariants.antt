use Rattle.std.proofs.Common.{◌≡◌, None, replicate}
use Rattle.roam_scrollback_stream.proofs.rows.no_panes.Given as goal

abbrev pub invariant-loop : goal.invariant-loop
invariant-loop l = l.panes.items ≡ replicate l.counter None
