use Rattle.std.proofs.Common.{◌≤◌, ◌+◌, ◌-◌, ◌*◌, length, take}
use Rattle.roam_term.specs.Stands.{Fed, HasSize}
use Rattle.roam_term.proofs.terms.Term.feed_each.Given as goal

abbrev pub invariant-loop-at : goal.invariant-loop-at
invariant-loop-at l = record {
  within : l.at ≤ length l.piece;
  fed : Fed l.initial.self l.self (take l.at l.piece);
  screen : HasSize l.self l.initial.self.live.screen.rows l.initial.self.live.screen.cols;
  room : length l.self.waiting ≤ length l.initial.self.waiting + 12 * l.at;
}

abbrev pub decreases-loop-at : goal.decreases-loop-at
decreases-loop-at l = length l.piece - l.at
