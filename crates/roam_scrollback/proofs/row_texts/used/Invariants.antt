use Rattle.std.proofs.Common.{◌≡◌, ◌≤◌, length, take}
use Rattle.roam_scrollback.specs.RowText.{used}
use Rattle.roam_scrollback.proofs.row_texts.used.Given as goal

abbrev pub invariant-loop-count : goal.invariant-loop-count
invariant-loop-count l = record {
  within : l.count ≤ length l.row;
  used : used (take l.count l.row) ≡ used l.row;
}

abbrev pub decreases-loop-count : goal.decreases-loop-count
decreases-loop-count l = l.count
