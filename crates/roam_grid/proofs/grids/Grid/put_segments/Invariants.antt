use Rattle.std.proofs.Common.{◌≡◌, ◌-◌, ◌≤◌, length, drop}
use Rattle.roam_cells.specs.Glyph.{inked_bytes}
use Rattle.roam_grid.specs.Screen.{IsSameSize}
use Rattle.roam_grid.specs.Marks.{marks_put_all}
use Rattle.roam_grid.specs.Writing.{put_all, first_put_all}
use Rattle.roam_grid.proofs.grids.Grid.put_segments.Given as goal

abbrev pub invariant-loop-at : goal.invariant-loop-at
invariant-loop-at l = record {
  within : l.at ≤ length l.bytes;
  screen : put_all (inked_bytes l.pen (drop l.at l.bytes)) l.writing l.self.screen ≡ put_all (inked_bytes l.pen l.bytes) l.writing l.initial.self.screen;
  first : first_put_all (inked_bytes l.pen (drop l.at l.bytes)) l.writing l.self.screen l.self.first ≡ first_put_all (inked_bytes l.pen l.bytes) l.writing l.initial.self.screen l.initial.self.first;
  marks : marks_put_all (inked_bytes l.pen (drop l.at l.bytes)) l.writing l.self.screen l.self.marks ≡ marks_put_all (inked_bytes l.pen l.bytes) l.writing l.initial.self.screen l.initial.self.marks;
  size : IsSameSize l.initial.self.screen l.self.screen;
}

abbrev pub decreases-loop-at : goal.decreases-loop-at
decreases-loop-at l = length l.bytes - l.at
