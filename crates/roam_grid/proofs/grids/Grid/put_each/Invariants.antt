use Rattle.std.proofs.Common.{◌≡◌, drop}
use Rattle.roam_cells.specs.Glyph.{inked_bytes}
use Rattle.roam_grid.specs.Screen.{IsSameSize}
use Rattle.roam_grid.specs.Marks.{marks_put_all}
use Rattle.roam_grid.specs.Writing.{put_all, first_put_all}
use Rattle.roam_grid.proofs.grids.Grid.put_each.Given as goal

abbrev pub invariant-loop-i : goal.invariant-loop-i
invariant-loop-i l = record {
  screen : put_all (inked_bytes l.pen (drop l.i l.bytes)) l.writing l.self.screen ≡ put_all (inked_bytes l.pen l.bytes) l.writing l.initial.self.screen;
  first : first_put_all (inked_bytes l.pen (drop l.i l.bytes)) l.writing l.self.screen l.self.first ≡ first_put_all (inked_bytes l.pen l.bytes) l.writing l.initial.self.screen l.initial.self.first;
  marks : marks_put_all (inked_bytes l.pen (drop l.i l.bytes)) l.writing l.self.screen l.self.marks ≡ marks_put_all (inked_bytes l.pen l.bytes) l.writing l.initial.self.screen l.initial.self.marks;
  size : IsSameSize l.initial.self.screen l.self.screen;
}
