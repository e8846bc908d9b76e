use Rattle.std.proofs.Common.{◌≡◌, ◌≤◌, ◌-◌, false, length, map, take}
use Rattle.roam_text.specs.Log.{Byte}
use Rattle.roam_scrollback.specs.Sources.{Sheds}
use Rattle.roam_scrollback.proofs.sources.RowSource.feed.Given as goal

abbrev pub invariant-loop-at : goal.invariant-loop-at
invariant-loop-at l = record {
  within : l.at ≤ length l.piece;
  sheds : Sheds l.initial.self l.self l.initial.lines l.lines false (map Byte (take l.at l.piece));
  same : l.at ≡ 0 → l.lines ≡ l.initial.lines;
}

abbrev pub decreases-loop-at : goal.decreases-loop-at
decreases-loop-at l = length l.piece - l.at
