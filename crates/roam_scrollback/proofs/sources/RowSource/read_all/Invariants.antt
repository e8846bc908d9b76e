use Rattle.std.proofs.Common.{◌≤◌, ◌-◌, List, length, map, take}
use Rattle.roam_text.specs.Log.{Byte, Item}
use Rattle.roam_text.specs.Stands.{Stands as Reads}
use Rattle.roam_scrollback.specs.Rewraps.{Follows}
use Rattle.roam_scrollback.proofs.sources.RowSource.read_all.Given as goal

abbrev pub invariant-loop-at : goal.invariant-loop-at
invariant-loop-at l = record {
  within : l.at ≤ length l.text;
  follows : (log : List Item) → Reads l.initial.self.reader log → Follows l.initial.self l.self (map Byte (take l.at l.text)) log;
}

abbrev pub decreases-loop-at : goal.decreases-loop-at
decreases-loop-at l = length l.text - l.at
