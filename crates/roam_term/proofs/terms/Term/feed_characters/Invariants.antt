use Rattle.std.proofs.Common.{◌≡◌, ◌≤◌, ◌-◌, length, take}
use Rattle.roam_term.specs.Stands.{Fed, HasSize}
use Rattle.roam_term.proofs.terms.Term.feed_characters.Given as goal

abbrev pub invariant-loop-at : goal.invariant-loop-at
invariant-loop-at l = record {
  within : l.at ≤ length l.piece;
  fed : Fed l.initial.self l.self (take l.at l.piece);
  waiting : l.self.waiting ≡ l.initial.self.waiting;
  screen : HasSize l.self l.initial.self.live.screen.rows l.initial.self.live.screen.cols;
}

abbrev pub decreases-loop-at : goal.decreases-loop-at
decreases-loop-at l = length l.piece - l.at
