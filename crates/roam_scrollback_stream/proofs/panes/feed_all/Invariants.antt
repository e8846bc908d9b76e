use Rattle.std.proofs.Common.{◌≡◌, ◌≤◌, ◌-◌, length, map, take}
use Rattle.roam_scrollback.specs.Lines.{no_lines}
use Rattle.roam_text.specs.Log.{Byte}
use Rattle.roam_scrollback_stream.specs.Panes.{TellsAll, TellsFrom}
use Rattle.roam_scrollback_stream.proofs.panes.feed_all.Given as goal

abbrev pub invariant-loop-at : goal.invariant-loop-at
invariant-loop-at l = record {
  within : l.at ≤ length l.piece;
  told : TellsAll l.initial.source l.source l.number l.initial.tellings.out l.tellings.out (map Byte (take l.at l.piece));
  from : TellsFrom l.initial.source l.initial.kept l.source l.kept l.number l.initial.tellings.out l.tellings.out (map Byte (take l.at l.piece));
  none : l.tellings.lines ≡ no_lines;
}

abbrev pub decreases-loop-at : goal.decreases-loop-at
decreases-loop-at l = length l.piece - l.at
