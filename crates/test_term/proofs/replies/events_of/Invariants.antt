use Rattle.std.specs.List.{All}
use Rattle.roam_simulation.specs.Events.{IsHandedIn}
use Rattle.test_term.proofs.replies.events_of.Given as goal

-- the events so far are handed in
abbrev pub invariant-loop-line : goal.invariant-loop-line
invariant-loop-line l = All IsHandedIn l.events.items
