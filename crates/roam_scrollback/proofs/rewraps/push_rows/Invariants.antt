use Rattle.std.proofs.Common.{◌≡◌, ◌++◌}
use Rattle.roam_scrollback.specs.Rewraps.{screen_text}
use Rattle.roam_scrollback.proofs.rewraps.push_rows.Given as goal

abbrev pub invariant-loop-row : goal.invariant-loop-row
invariant-loop-row l = l.all.items ≡ l.initial.all.items ++ screen_text l.row l.grid.screen l.wraps
