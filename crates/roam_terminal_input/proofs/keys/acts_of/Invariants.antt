use Rattle.std.proofs.Common.{All, length}
use Rattle.roam_acts.specs.Acts.{IsInRange}
use Rattle.roam_terminal_input.specs.Keys.{lines_of}
use Rattle.roam_terminal_input.proofs.Reading.{SoFar}
use Rattle.roam_terminal_input.proofs.keys.acts_of.Given as goal

abbrev pub invariant-loop-rest : goal.invariant-loop-rest
invariant-loop-rest l = SoFar (lines_of l.text) l.acts.items (lines_of l.rest) × All IsInRange l.acts.items

abbrev pub decreases-loop-rest : goal.decreases-loop-rest
decreases-loop-rest l = length l.rest
