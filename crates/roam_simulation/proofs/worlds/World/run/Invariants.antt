use Rattle.std.proofs.Common.{take}
use Rattle.roam_simulation.proofs.Stepping.{HasRun}
use Rattle.roam_simulation.proofs.worlds.World.run.Given as goal

-- the events so far have happened
abbrev pub invariant-loop-event : goal.invariant-loop-event
invariant-loop-event l = HasRun l.world l.session (record { rows = l.rows; cols = l.cols }) (take l.event-index l.events)
