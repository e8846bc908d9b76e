use Rattle.std.proofs.Common.{◌≡◌, ℕ, ◌<◌, true}
use Rattle.roam_pane_protocol.specs.Closes.{is_there}
use Rattle.roam_pane_protocol.proofs.closes.is_alone.Given as goal

abbrev pub invariant-loop-other : goal.invariant-loop-other
invariant-loop-other l = (q : ℕ) → q < l.other → is_there l.list q ≡ true → q ≡ l.pane
