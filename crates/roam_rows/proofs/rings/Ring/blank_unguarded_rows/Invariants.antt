use Rattle.std.proofs.Common.{◌≡◌, ℕ, ◌<◌, ◌≤◌, ◌⊎◌, cond}
use Rattle.roam_cells.specs.Glyph.{blank}
use Rattle.roam_cells.specs.Place.{cell_at}
use Rattle.roam_rows.specs.Vertical.{IsSameShape}
use Rattle.roam_rows.proofs.rings.Ring.blank_unguarded_rows.Given as goal

abbrev pub invariant-loop-r : goal.invariant-loop-r
invariant-loop-r l =
    let v = l.initial.self in
    record {
      shape : IsSameShape v l.self;
      inside : (r c : ℕ) → l.from ≤ r → r < l.r → r < v.rows → c < v.cols → cell_at v.cols l.self.cells r c ≡ cond (cell_at v.cols v.cells r c).guarded (cell_at v.cols v.cells r c) blank;
      outside : (r c : ℕ) → (r < l.from) ⊎ (l.r ≤ r) → r < v.rows → c < v.cols → cell_at v.cols l.self.cells r c ≡ cell_at v.cols v.cells r c;
    }
