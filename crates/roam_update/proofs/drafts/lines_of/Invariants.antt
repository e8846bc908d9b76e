use Rattle.std.proofs.Common.{◌≡◌, ℕ, ◌<◌, ◌++◌, [], length, get_or}
use Rattle.roam_cells.specs.Place.{IsWholeRow}
use Rattle.roam_update.proofs.drafts.lines_of.Given as goal

-- the rows so far have whole characters, and the others are left
abbrev pub invariant-loop-row : goal.invariant-loop-row
invariant-loop-row l =
    record {
      lines : l.lines.items ++ l.row-iterator.rest.items ≡ l.fn.rows.items;
      whole : (r : ℕ) → r < length l.lines.items → IsWholeRow (get_or l.fn.rows.items r []);
    }
