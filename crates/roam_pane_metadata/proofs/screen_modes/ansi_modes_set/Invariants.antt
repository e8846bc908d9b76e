use Rattle.std.proofs.Common.{◌≡◌, ◌-◌, length, drop}
use Rattle.std.specs.List.{fold}
use Rattle.roam_pane_metadata.specs.ScreenModes.{ansi_mode_set}
use Rattle.roam_pane_metadata.proofs.screen_modes.ansi_modes_set.Given as goal

abbrev pub invariant-loop-at : goal.invariant-loop-at
invariant-loop-at l = fold (ansi_mode_set l.on) l.all (drop l.at l.modes) ≡ fold (ansi_mode_set l.on) l.fn.before l.modes

abbrev pub decreases-loop-at : goal.decreases-loop-at
decreases-loop-at l = length l.modes - l.at
