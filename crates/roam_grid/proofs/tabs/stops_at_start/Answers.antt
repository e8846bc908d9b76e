use Rattle.std.proofs.Common.{arith}
use Rattle.roam_grid.proofs.Starting.{stops_are}
use Rattle.roam_grid.proofs.tabs.stops_at_start.Goals as goal

pub returns : goal.returns
returns c = record { stops = stops_are c.loop-c.stops c.loop-c.invariant.len (λ k h. c.loop-c.invariant.set k (omega (arith, c.loop-c-test.false))) }
